-- `fit_of` by cases, and its two bounds. Assumes nothing.
use mathlib.Core.Path.{◌≡◌, refl}
use Prim.Native.Nat.{ℕ, ◌≤◌, ◌<◌, zero-le}
use native.Mathlib.Omega.{arith}
use mathlib.Core.Bool.{Bool, true, false}
use lib.Dec.{leb}
use borrow.Author.Tests.{le-leb, lt-leb, leb-true}
use Rattle.ground.specs.Choice.{when◌then◌else◌}
use Rattle.slice.specs.Table.{cap, fit_of}

pub fit_short : (len : ℕ) → len ≤ cap → fit_of len ≡ len
unfolding fit_of
fit_short len h = rw (le-leb len cap h)

pub fit_long : (len : ℕ) → cap < len → fit_of len ≡ 0
unfolding fit_of
fit_long len h = rw (lt-leb len cap h)

chosen : (len : ℕ) (t : Bool) → leb len cap ≡ t → ((when t then len else 0) ≤ len) × ((when t then len else 0) ≤ cap)
chosen len true e = (omega arith, leb-true len cap e)
chosen len false e = (zero-le, zero-le)

pub fit_le : (len : ℕ) → (fit_of len ≤ len) × (fit_of len ≤ cap)
unfolding fit_of
fit_le len = chosen len (leb len cap) refl
