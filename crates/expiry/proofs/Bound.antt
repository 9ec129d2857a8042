-- The least of a column, and that it is a bound. Assumes nothing.
use Prim.Native.Nat.{ℕ, zero, suc, ◌+◌, ◌-◌, ◌≤◌, ◌<◌, min}
use mathlib.Core.Bool.{Bool, true, false}
use mathlib.Core.List.{List, [], ◌∷◌, map}
use mathlib.Core.Path.{◌≡◌, refl, ap, ◌∙◌}
use native.Mathlib.Nat.{le_of_suc-le-suc, not-suc-le-zero}
use native.Mathlib.Numerals.{add-one}
use native.Mathlib.Omega.{arith}
use borrow.Author.Tests.{le-ltb, le-leb, leb-true}
use lib.Dec.{ltb, leb}
use lib.ListN.{length, get_or, set, take, length-map, get_or-map}
use Rattle.ground.specs.Choice.{when◌then◌else◌}
use Rattle.ground.specs.Lists.{first, all}
use Rattle.ground.proofs.Walks.{both}
use Rattle.call.specs.declared.Call.{Call}
use Rattle.call.specs.Record.{free_call, requested}
use Rattle.timed.specs.Timed.{t1}
use Rattle.expiry.specs.Expiry.{at_least, under, never, quiet_until, soonest_of, refreshed_of}

pub all_lower : (n m : ℕ) (l : List ℕ) → n ≤ m → all (at_least m) l ≡ true → all (at_least n) l ≡ true
unfolding all
all_lower n m [] h e = refl
all_lower n m (d ∷ ds) h e =
    let w = both (leb m d) (all (at_least m) ds) e in
    let k : m ≤ d = leb-true m d w.0 in
    let g : n ≤ d = omega arith in
    simp (le-leb n d g, all_lower n m ds h w.1)

-- nothing is due before the soonest
pub none_under : (time m : ℕ) (l : List ℕ) → time ≤ m → all (at_least m) l ≡ true → first (under time) l ≡ length l
unfolding all first
none_under time m [] h e = refl
none_under time m (d ∷ ds) h e =
    let w = both (leb m d) (all (at_least m) ds) e in
    let k : m ≤ d = leb-true m d w.0 in
    let g : time ≤ d = omega arith in
    simp (le-ltb d time g, none_under time m ds h w.1)

soonest_suc : (l : List ℕ) (i d : ℕ) → i < length l → soonest_of (take (suc i) l) ≡ min (soonest_of (take i l)) (get_or l i d)
unfolding soonest_of
soonest_suc [] i d h = absurd (not-suc-le-zero h)
soonest_suc (x ∷ xs) zero d h = omega arith
soonest_suc (x ∷ xs) (suc i) d h = omega (arith, soonest_suc xs i d (le_of_suc-le-suc h))

-- one element more
pub soonest_on : (l : List ℕ) (i d : ℕ) → i < length l → soonest_of (take (i + 1) l) ≡ min (soonest_of (take i l)) (get_or l i d)
soonest_on l i d h = rw add-one (soonest_suc l i d h)

soonest_small : (l : List ℕ) → soonest_of l ≤ never
unfolding soonest_of
soonest_small [] = omega arith
soonest_small (x ∷ xs) = omega (arith, soonest_small xs)

soonest_set : (l : List ℕ) (i x : ℕ) → i < length l → get_or l i never ≡ never → x ≤ never → soonest_of (set l i x) ≡ min (soonest_of l) x
unfolding soonest_of
soonest_set [] i x h e s = absurd (not-suc-le-zero h)
soonest_set (y ∷ ys) zero x h e s = omega (arith, e, soonest_small ys)
soonest_set (y ∷ ys) (suc i) x h e s = omega (arith, soonest_set ys i x (le_of_suc-le-suc h) e s)

pub soonest_bound : (l : List ℕ) → all (at_least (soonest_of l)) l ≡ true
unfolding soonest_of all
soonest_bound [] = refl
soonest_bound (x ∷ xs) =
    let m = min x (soonest_of xs) in
    simp (le-leb m x (omega arith), all_lower m (soonest_of xs) xs (omega arith) (soonest_bound xs))

-- a bound found anew is one
pub refreshed_bound : (soon : ℕ) (dues : List ℕ) (time : ℕ) → all (at_least soon) dues ≡ true → all (at_least (refreshed_of soon dues time)) dues ≡ true
refreshed_bound soon dues time h = go (ltb soon time)
  where
    go : (b : Bool) → all (at_least (when b then soonest_of dues else soon)) dues ≡ true
    go true = soonest_bound dues
    go false = h

quiet_small : (c : Call) → quiet_until c ≤ never
quiet_small c = go (requested c) (leb c.start (never - t1)) refl
  where
    go : (b d : Bool) → leb c.start (never - t1) ≡ d → (when b then (when d then c.start + (t1 - 1) else never) else never) ≤ never
    go true true e = let l = leb-true c.start (never - t1) e in omega arith
    go true false e = omega arith
    go false d e = omega arith

-- a record stored where a free one was
pub soonest_stored : (l : List Call) (i : ℕ) (x : Call) → i < length l → get_or l i free_call ≡ free_call
    → soonest_of (set (map quiet_until l) i (quiet_until x)) ≡ min (soonest_of (map quiet_until l)) (quiet_until x)
soonest_stored l i x h e =
    soonest_set (map quiet_until l) i (quiet_until x) (omega (arith, length-map l quiet_until, h)) (get_or-map quiet_until l i free_call ∙ ap quiet_until e) (quiet_small x)
