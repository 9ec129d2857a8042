-- Laws of the mask of a list. Assumes nothing.
use Prim.Native.Nat.{ℕ, zero, suc, ◌+◌, ◌*◌, ◌/◌, ◌%◌, ◌^◌, ◌≤◌, ◌<◌}
use mathlib.Core.Bool.{Bool, true, false}
use mathlib.Core.List.{List, [], ◌∷◌}
use mathlib.Core.Path.{◌≡◌, refl}
use native.Mathlib.Nat.{le_of_suc-le-suc, not-suc-le-zero, two-pow-succ}
use native.Mathlib.Omega.{arith}
use borrow.Author.Tests.{eq-eqb, ne_eqb}
use lib.Dec.{eqb}
use lib.ListN.{length, get_or, set}
use lib.Count.{count_trailing_zeros, under}
use Rattle.ground.specs.Choice.{when◌then◌else◌}
use Rattle.ground.specs.Lists.{first}
use Rattle.bits.specs.Mask.{digit, mask_of, weigh}

lowest_digit : (b : Bool) (k m f : ℕ) → count_trailing_zeros k m ≡ f → under ((digit b + 2 * m) % 2) (count_trailing_zeros k ((digit b + 2 * m) / 2)) ≡ (when b then 0 else suc f)
lowest_digit true k m f h = let e : (1 + 2 * m) % 2 ≡ 1 = omega arith in rw e
lowest_digit false k m f h =
    let e : (0 + 2 * m) % 2 ≡ 0 = omega arith in
    let g : (0 + 2 * m) / 2 ≡ m = omega arith in
    rw (e, g, h)

weigh_suc : (b : Bool) (i : ℕ) → weigh b (suc i) ≡ 2 * weigh b i
weigh_suc true i = omega (arith, two-pow-succ i)
weigh_suc false i = refl

module _ {A : Type 0} (p : A → Bool) where
  -- the lowest digit that is set is the first that passes
  pub mask_first : (l : List A) → count_trailing_zeros (length l) (mask_of p l) ≡ first p l
  unfolding count_trailing_zeros mask_of first
  mask_first [] = refl
  mask_first (x ∷ xs) = lowest_digit (p x) (length xs) (mask_of p xs) (first p xs) (mask_first xs)

  pub mask_set : (l : List A) (i : ℕ) (x d : A) → i < length l → mask_of p (set l i x) + weigh (p (get_or l i d)) i ≡ mask_of p l + weigh (p x) i
  unfolding mask_of
  mask_set [] i x d h = absurd (not-suc-le-zero h)
  mask_set (y ∷ ys) zero x d h = omega arith
  mask_set (y ∷ ys) (suc i) x d h =
      let r = mask_set ys i x d (le_of_suc-le-suc h) in
      omega (arith, r, weigh_suc (p x) i, weigh_suc (p (get_or ys i d)) i)

  pub mask_has : (l : List A) (i : ℕ) (d : A) → i < length l → weigh (p (get_or l i d)) i ≤ mask_of p l
  unfolding mask_of
  mask_has [] i d h = absurd (not-suc-le-zero h)
  mask_has (y ∷ ys) zero d h = omega arith
  mask_has (y ∷ ys) (suc i) d h =
      let r = mask_has ys i d (le_of_suc-le-suc h) in
      omega (arith, r, weigh_suc (p (get_or ys i d)) i)

  digit_le : (b : Bool) → digit b ≤ 1
  digit_le true = omega arith
  digit_le false = omega arith

  pub mask_lt : (l : List A) → mask_of p l < 2 ^ length l
  unfolding mask_of
  mask_lt [] = omega arith
  mask_lt (y ∷ ys) = omega (arith, mask_lt ys, digit_le (p y), two-pow-succ (length ys))

pub weigh_yes : (n i : ℕ) → n ≡ 0 → weigh (eqb n 0) i ≡ 2 ^ i
weigh_yes n i h = rw (eq-eqb n 0 h)

pub weigh_no : (n i : ℕ) → (n ≡ 0 → ⊥) → weigh (eqb n 0) i ≡ 0
weigh_no n i h = rw (ne_eqb n 0 h)
