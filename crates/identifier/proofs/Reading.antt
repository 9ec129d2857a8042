-- `taken` and `distinct`, read place by place. Assumes nothing.
use Rattle.std.proofs.Common.{◌≡◌, ℕ, zero, suc, ◌<◌, Bool, true, false, not, ◌||◌, T, eqb, List, [], ◌∷◌, length, get_or, sym, refl, ap, suc-le-suc, zero-le, le_of_suc-le-suc, not-suc-le-zero, arith, eqb→eq, T_not}
use lib.Dec.{not_T}
use Rattle.ground.specs.Lists.{any}
use Rattle.ground.proofs.Bools.{and_l, and_r, and_i, or_inl, or_inr, eq→eqb, is_true, from_true}
use Rattle.identifier.specs.Identifier.{taken, distinct}
use Rattle.identifier.specs.Statements.{Apart, DistinctReads}

-- what stands at a place is taken
pub taken_at : (held : List ℕ) (i : ℕ) → i < length held → T (taken held (get_or held i 0))
unfolding any
taken_at [] i h = absurd (not-suc-le-zero h)
taken_at (x ∷ xs) zero h = or_inl (eqb x x) (taken xs x) (eq→eqb x x refl)
taken_at (x ∷ xs) (suc i) h =
    or_inr (eqb (get_or xs i 0) x) (taken xs (get_or xs i 0)) (taken_at xs i (le_of_suc-le-suc h))

-- where an identifier that is taken stands
pub record Place (held : List ℕ) (identifier : ℕ) : Type 0 where
  pub place : ℕ
  pub within : place < length held
  pub is : get_or held place 0 ≡ identifier

pub place_of_lem : (held : List ℕ) (identifier : ℕ) → T (taken held identifier) → Place held identifier
unfolding any
place_of_lem [] k h = absurd h
place_of_lem (x ∷ xs) k h = go (eqb k x) refl h (place_of_lem xs k)
  where
    go : (b : Bool) → eqb k x ≡ b → T (b || taken xs k) → (T (taken xs k) → Place xs k) → Place (x ∷ xs) k
    go true e t ih = record { place = 0; within = suc-le-suc zero-le; is = sym (eqb→eq k x (from_true (eqb k x) e)) }
    go false e t ih = let p = ih t in record { place = suc p.place; within = suc-le-suc p.within; is = p.is }

-- the first is none of the others
pub head_apart : (x : ℕ) (xs : List ℕ) → T (distinct (x ∷ xs)) → T (taken xs x) → ⊥
unfolding distinct
head_apart x xs h t = T_not (taken xs x) (and_l (not (taken xs x)) (distinct xs) h) t

pub tail_distinct : (x : ℕ) (xs : List ℕ) → T (distinct (x ∷ xs)) → T (distinct xs)
unfolding distinct
tail_distinct x xs h = and_r (not (taken xs x)) (distinct xs) h

-- one more that is not taken
pub distinct_cons : (x : ℕ) (xs : List ℕ) → T (distinct xs) → (T (taken xs x) → ⊥) → T (distinct (x ∷ xs))
unfolding distinct
distinct_cons x xs h n = and_i (not (taken xs x)) (distinct xs) (not_T (taken xs x) n) h

pub apart_of : (held : List ℕ) → T (distinct held) → Apart held
apart_of [] d i j h k e = absurd (not-suc-le-zero h)
apart_of (x ∷ xs) d zero zero h k e = refl
apart_of (x ∷ xs) d zero (suc j) h k e =
    absurd (head_apart x xs d (rw e (taken_at xs j (le_of_suc-le-suc k))))
apart_of (x ∷ xs) d (suc i) zero h k e =
    absurd (head_apart x xs d (rw (← e) (taken_at xs i (le_of_suc-le-suc h))))
apart_of (x ∷ xs) d (suc i) (suc j) h k e =
    ap suc (apart_of xs (tail_distinct x xs d) i j (le_of_suc-le-suc h) (le_of_suc-le-suc k) e)

pub distinct_of : (held : List ℕ) → Apart held → T (distinct held)
unfolding distinct
distinct_of [] a = tt
distinct_of (x ∷ xs) a =
    let d = distinct_of xs (λ i j h k e. let f = a (suc i) (suc j) (suc-le-suc h) (suc-le-suc k) e in omega arith) in
    distinct_cons x xs d
    (λ t.
    let p = place_of_lem xs x t in
    let f = a 0 (suc p.place) (suc-le-suc zero-le) (suc-le-suc p.within) (sym p.is) in
    omega arith)

pub reads : DistinctReads
reads held = (λ e. apart_of held (from_true (distinct held) e), λ a. is_true (distinct held) (distinct_of held a))
