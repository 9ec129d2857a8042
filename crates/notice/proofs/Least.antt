-- The smallest of a list of numbers. Assumes nothing.
use Prim.Native.Nat.{ℕ, min, ◌≤◌, ◌<◌}
use native.Mathlib.Nat.{le_refl}
use native.Mathlib.Omega.{arith}
use mathlib.Core.Path.{◌≡◌, refl}
use mathlib.Core.Bool.{Bool, true, false, ◌||◌, not}
use mathlib.Core.List.{List, [], ◌∷◌}
use lib.Dec.{T, eqb, leb, eqb→eq, eqb_refl, leb→le, le→leb, T_not, not_T}
use borrow.Author.Tests.{leb-true, leb-false}
use Rattle.ground.specs.Lists.{all, any}
use Rattle.ground.proofs.Bools.{and_l, and_r, and_i, or_inl, or_inr, from_true, eq→eqb, by_cases}
use Rattle.notice.specs.Whole.{Least, not_zero}

-- two tests that follow from each other
pub same_test : (a b : Bool) → (T a → T b) → (T b → T a) → a ≡ b
same_test true true f g = refl
same_test true false f g = absurd (f tt)
same_test false true f g = absurd (g tt)
same_test false false f g = refl

pub all_both : {A : Type 0} (p q r : A → Bool) → ((x : A) → T (p x) → T (q x) → T (r x)) → (l : List A) → T (all p l) → T (all q l) → T (all r l)
unfolding all
all_both p q r f [] s t = tt
all_both p q r f (x ∷ xs) s t =
    and_i (r x) (all r xs) (f x (and_l (p x) (all p xs) s) (and_l (q x) (all q xs) t))
    (all_both p q r f xs (and_r (p x) (all p xs) s) (and_r (q x) (all q xs) t))

-- what passes of all passes of one among them
pub among_all : (q : ℕ → Bool) (n : ℕ) (l : List ℕ) → T (any (eqb n) l) → T (all q l) → T (q n)
unfolding any all
among_all q n [] s t = absurd s
among_all q n (x ∷ xs) s t = go (eqb n x) refl s (among_all q n xs)
  where
    go : (b : Bool) → eqb n x ≡ b → T (b || any (eqb n) xs) → (T (any (eqb n) xs) → T (all q xs) → T (q n)) → T (q n)
    go true e h ih = rw (eqb→eq n x (from_true (eqb n x) e)) (and_l (q x) (all q xs) t)
    go false e h ih = ih h (and_r (q x) (all q xs) t)

pub least_one : (o : ℕ) → Least o (o ∷ [])
unfolding any all
least_one o = record { among = or_inl (eqb o o) false (eqb_refl o); below = and_i (leb o o) true (le→leb o o (le_refl o)) tt }

pub least_more : (s o : ℕ) (os : List ℕ) → Least s os → Least (min s o) (o ∷ os)
unfolding any all
least_more s o os p = by_cases (leb s o) (λ t. smaller (leb-true s o t)) (λ f. larger (leb-false s o f))
  where
    smaller : s ≤ o → Least (min s o) (o ∷ os)
    smaller h =
        let e : min s o ≡ s = omega arith in
        rw e (record { among = or_inr (eqb s o) (any (eqb s) os) p.among; below = and_i (leb s o) (all (leb s) os) (le→leb s o h) p.below })

    larger : o < s → Least (min s o) (o ∷ os)
    larger h =
        let e : min s o ≡ o = omega arith in
        let b : T (all (leb o) os) = all_both (leb s) (leb s) (leb o) (λ x u v. omega (arith, leb→le, le→leb)) os p.below p.below in
        rw e (record { among = or_inl (eqb o o) (any (eqb o) os) (eqb_refl o); below = and_i (leb o o) (all (leb o) os) (le→leb o o (le_refl o)) b })

-- of numbers up to 2 all are 2 exactly if the smallest is
pub least_two : (s : ℕ) (os : List ℕ) → Least s os → T (all (λ o. leb o 2) os) → eqb s 2 ≡ all (eqb 2) os
least_two s os p h =
    same_test (eqb s 2) (all (eqb 2) os)
    (λ t. all_both (leb s) (λ o. leb o 2) (eqb 2) (λ x u v. omega (arith, leb→le, eqb→eq, eq→eqb)) os p.below h)
    (λ t. omega (arith, eqb→eq, eq→eqb, among_all (eqb 2) s os p.among t))

-- none is 0 exactly if the smallest is not
pub least_some : (s : ℕ) (os : List ℕ) → Least s os → not (eqb s 0) ≡ all not_zero os
least_some s os p =
    same_test (not (eqb s 0)) (all not_zero os)
    (λ t. all_both (leb s) (leb s) not_zero (λ x u v. not_T (eqb x 0) (λ z. T_not (eqb s 0) t (omega (arith, leb→le, eqb→eq, eq→eqb)))) os p.below p.below)
    (λ t. among_all not_zero s os p.among t)
