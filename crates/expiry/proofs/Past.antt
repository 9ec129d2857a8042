-- The place that the library finds is the first one. Assumes nothing.
use Prim.Native.Nat.{ℕ}
use mathlib.Core.Bool.{Bool, not}
use mathlib.Core.List.{List, [], ◌∷◌}
use mathlib.Core.Path.{◌≡◌, refl}
use native.Mathlib.Omega.{arith}
use borrow.Author.Tests.{ltb-false}
use lib.Dec.{ltb}
use lib.ListN.{length}
use Rattle.std.specs.List.{position, position_or_len}
use Rattle.std.specs.Option.{unwrap_or}
use Rattle.std.proofs.lemmas.List.Sums.{prefix_len-le-length}
use Rattle.ground.specs.Lists.{first}
use Rattle.ground.proofs.Bools.{by_cases}

found_same : {A : Type 0} (p : A → Bool) (l : List A) → position_or_len p l ≡ first p l
unfolding first
found_same p [] = refl
found_same p (x ∷ xs) = by_cases (p x) (λ t. rw t) (λ f. rw (f, found_same p xs) (omega arith))

-- where it finds none it is the length
pub first_found : {A : Type 0} (p : A → Bool) (l : List A) (n : ℕ) → length l ≡ n → unwrap_or (position p l) n ≡ first p l
first_found p l n e =
    by_cases (ltb (position_or_len p l) (length l))
    (λ t. rw t (found_same p l))
    (λ f. let h = ltb-false (position_or_len p l) (length l) f in rw f (omega (arith, h, e, found_same p l, prefix_len-le-length (λ x. not (p x)) l)))
