-- The mask of free records finds the first free one; a first place in a list that goes on. Assumes nothing.
use Prim.Native.Nat.{suc, ◌≤◌, ◌<◌}
use mathlib.Core.Bool.{Bool, true, false}
use mathlib.Core.List.{List, [], ◌∷◌, ◌++◌}
use mathlib.Core.Path.{◌≡◌, refl, ap}
use native.Mathlib.Nat.{not-suc-le-zero}
use native.Mathlib.Omega.{arith}
use lib.Count.{count_trailing_zeros}
use lib.ListN.{length}
use Rattle.ground.specs.Choice.{when◌then◌else◌}
use Rattle.ground.specs.Lists.{first}
use Rattle.call.specs.declared.Call.{Call}
use Rattle.call.specs.Record.{is_free}
use Rattle.bits.specs.Mask.{mask_of}
use Rattle.bits.proofs.Mask.{mask_first}

pub free_first : (l : List Call) → length l ≡ 64 → count_trailing_zeros 64 (mask_of is_free l) ≡ first is_free l
free_first l e = rw e at (mask_first is_free l)

-- a first place in a list that goes on is the first place in its beginning, or past it
pub first_beginning : {A : Type 0} (p : A → Bool) (a b : List A) → first p (a ++ b) < length a → first p a ≡ first p (a ++ b)
unfolding first
first_beginning p [] b h = absurd (not-suc-le-zero h)
first_beginning p (x ∷ xs) b h = go (p x) h (first_beginning p xs b)
  where
    go : (t : Bool) → (when t then 0 else suc (first p (xs ++ b))) < suc (length xs) → (first p (xs ++ b) < length xs → first p xs ≡ first p (xs ++ b))
        → (when t then 0 else suc (first p xs)) ≡ (when t then 0 else suc (first p (xs ++ b)))
    go true g r = refl
    go false g r = ap suc (r (omega arith))

pub first_past_end : {A : Type 0} (p : A → Bool) (a b : List A) → length a ≤ first p (a ++ b) → first p a ≡ length a
unfolding first
first_past_end p [] b h = refl
first_past_end p (x ∷ xs) b h = go (p x) h (first_past_end p xs b)
  where
    go : (t : Bool) → suc (length xs) ≤ (when t then 0 else suc (first p (xs ++ b))) → (length xs ≤ first p (xs ++ b) → first p xs ≡ length xs)
        → (when t then 0 else suc (first p xs)) ≡ suc (length xs)
    go true g r = absurd (not-suc-le-zero g)
    go false g r = ap suc (r (omega arith))
