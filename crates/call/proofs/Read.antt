-- The record that `calls[i]` reads past an array's end: each number is 0, and no place is behind the first DLI1, so it is not `free_call`. Within the array any record does for it.
-- Assumes nothing.
use Prim.Native.Nat.{ℕ, zero, suc, ◌<◌}
use mathlib.Core.Path.{◌≡◌, refl}
use mathlib.Core.List.{List, [], ◌∷◌}
use native.Mathlib.Nat.{le_of_suc-le-suc, not-suc-le-zero}
use lib.ListN.{length, get_or}
use Rattle.waits.specs.Waits.{no_dli1}
use Rattle.call.specs.declared.Call.{Call}
use Rattle.call.specs.Record.{free_call}
use Rattle.call.specs.Fields.{waiting_is}

abbrev pub unread : Call
unread = waiting_is (record { first = no_dli1; count = 0; later = [] }) free_call

pub read_any : {A : Type 0} (l : List A) (i : ℕ) (x y : A) → i < length l → get_or l i x ≡ get_or l i y
read_any [] i x y h = absurd (not-suc-le-zero h)
read_any (z ∷ zs) zero x y h = refl
read_any (z ∷ zs) (suc i) x y h = read_any zs i x y (le_of_suc-le-suc h)
