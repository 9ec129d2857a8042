-- The lowest element of a list that passes a test, and how many do. Assumes nothing.
use Prim.Native.Nat.{ℕ, zero, suc, ◌-◌, ◌≤◌, ◌<◌, zero-le}
use native.Mathlib.Nat.{le_of_suc-le-suc, not-suc-le-zero}
use native.Mathlib.Omega.{arith}
use mathlib.Core.Path.{◌≡◌, refl}
use mathlib.Core.Bool.{Bool, true, false, not}
use mathlib.Core.List.{List, [], ◌∷◌}
use lib.Dec.{T, T_not}
use lib.ListN.{length, get_or, set, get_or-eq_default}
use Rattle.ground.specs.Choice.{when◌then◌else◌}
use Rattle.ground.specs.Lists.{first}
use Rattle.ground.proofs.Bools.{from_true, from_false, is_false}

-- how many elements pass
unfoldable pub count : {A : Type 0} → (A → Bool) → List A → ℕ
count p [] = 0
count p (x ∷ xs) = when p x then suc (count p xs) else count p xs

module _ {A : Type 0} (p : A → Bool) (d : A) where
  -- the lowest that passes does
  pub lowest_passes : (l : List A) → first p l < length l → T (p (get_or l (first p l) d))
  unfolding first
  lowest_passes [] h = absurd (not-suc-le-zero h)
  lowest_passes (x ∷ xs) h = go (p x) refl h (lowest_passes xs)
    where
      go : (b : Bool) → p x ≡ b → (when b then 0 else suc (first p xs)) < suc (length xs)
          → (first p xs < length xs → T (p (get_or xs (first p xs) d))) → T (p (get_or (x ∷ xs) (when b then 0 else suc (first p xs)) d))
      go true e h ih = from_true (p x) e
      go false e h ih = ih (le_of_suc-le-suc h)

  -- and none before it does
  pub lowest_lower : (l : List A) (j : ℕ) → j < first p l → T (not (p (get_or l j d)))
  unfolding first
  lowest_lower [] j h = absurd (not-suc-le-zero h)
  lowest_lower (x ∷ xs) j h = go (p x) refl j h (lowest_lower xs)
    where
      go : (b : Bool) → p x ≡ b → (j : ℕ) → j < (when b then 0 else suc (first p xs))
          → ((j : ℕ) → j < first p xs → T (not (p (get_or xs j d)))) → T (not (p (get_or (x ∷ xs) j d)))
      go true e j h ih = absurd (not-suc-le-zero h)
      go false e zero h ih = from_false (p x) e
      go false e (suc j) h ih = ih j (le_of_suc-le-suc h)

  -- a place where an element passes is one of the list's, if the default doesn't
  pub within : (l : List A) (i : ℕ) → T (not (p d)) → T (p (get_or l i d)) → i < length l
  within l i n t =
      let o : length l ≤ i → ⊥ = λ h. T_not (p d) n (rw (get_or-eq_default l d h) at t) in
      omega arith

  -- a place where an element passes and none before it does is the lowest
  pub lowest_is : (l : List A) (i : ℕ) → i < length l → T (p (get_or l i d)) → ((j : ℕ) → j < i → T (not (p (get_or l j d)))) → first p l ≡ i
  lowest_is l i w t f =
      let a : i < first p l → ⊥ = λ h. T_not (p (get_or l i d)) (lowest_lower l i h) t in
      let b : first p l < i → ⊥ = λ h. T_not (p (get_or l (first p l) d)) (f (first p l) h) (lowest_passes l (omega arith)) in
      omega arith

  -- where none passes, the length
  pub lowest_none : (l : List A) → ((i : ℕ) → T (not (p (get_or l i d)))) → length l ≤ first p l
  lowest_none l f =
      let a : first p l < length l → ⊥ = λ h. T_not (p (get_or l (first p l) d)) (f (first p l)) (lowest_passes l h) in
      omega arith

  pub count_none : (l : List A) → T (not (p d)) → count p l ≡ 0 → (i : ℕ) → T (not (p (get_or l i d)))
  unfolding count
  count_none [] n e i = n
  count_none (x ∷ xs) n e i = go (p x) refl e i (count_none xs n)
    where
      go : (b : Bool) → p x ≡ b → (when b then suc (count p xs) else count p xs) ≡ 0 → (i : ℕ)
          → (count p xs ≡ 0 → (i : ℕ) → T (not (p (get_or xs i d)))) → T (not (p (get_or (x ∷ xs) i d)))
      go true q e i ih = absurd (omega (arith, e))
      go false q e zero ih = from_false (p x) q
      go false q e (suc i) ih = ih e i

module _ {A : Type 0} (p : A → Bool) where
  -- the lowest is a place of the list or its length
  pub lowest_small : (l : List A) → first p l ≤ length l
  unfolding first
  lowest_small [] = zero-le
  lowest_small (x ∷ xs) =
      let l = lowest_small xs in
      elim (p x) as (λ b. (when b then 0 else suc (first p xs)) ≤ suc (length xs)) [ true ↦ omega arith | false ↦ omega arith ]

  pub count_length : (l : List A) → count p l ≤ length l
  unfolding count
  count_length [] = zero-le
  count_length (x ∷ xs) =
      let l = count_length xs in
      elim (p x) as (λ b. (when b then suc (count p xs) else count p xs) ≤ suc (length xs)) [ true ↦ omega arith | false ↦ omega arith ]

  -- the lowest replaced by one that doesn't pass
  pub count_lowest : (l : List A) (y : A) → T (not (p y)) → count p (set l (first p l) y) ≡ count p l - 1
  unfolding count first
  count_lowest [] y n = refl
  count_lowest (x ∷ xs) y n = go (p x) refl (count_lowest xs y n)
    where
      go : (b : Bool) → p x ≡ b → count p (set xs (first p xs) y) ≡ count p xs - 1
          → count p (set (x ∷ xs) (when b then 0 else suc (first p xs)) y) ≡ (when b then suc (count p xs) else count p xs) - 1
      go true q ih = rw (is_false (p y) n) (omega arith)
      go false q ih = rw q ih

  -- where the lowest is past the end, none passes
  pub count_past : (l : List A) → length l ≤ first p l → count p l ≡ 0
  unfolding count first
  count_past [] h = refl
  count_past (x ∷ xs) h = go (p x) refl h (count_past xs)
    where
      go : (b : Bool) → p x ≡ b → suc (length xs) ≤ (when b then 0 else suc (first p xs)) → (length xs ≤ first p xs → count p xs ≡ 0)
          → (when b then suc (count p xs) else count p xs) ≡ 0
      go true q h ih = absurd (not-suc-le-zero h)
      go false q h ih = ih (le_of_suc-le-suc h)

  -- and where it isn't, one does
  pub count_some : (l : List A) → first p l < length l → 0 < count p l
  unfolding count first
  count_some [] h = absurd (not-suc-le-zero h)
  count_some (x ∷ xs) h = go (p x) refl h (count_some xs)
    where
      go : (b : Bool) → p x ≡ b → (when b then 0 else suc (first p xs)) < suc (length xs) → (first p xs < length xs → 0 < count p xs)
          → 0 < (when b then suc (count p xs) else count p xs)
      go true q h ih = omega arith
      go false q h ih = ih (le_of_suc-le-suc h)
