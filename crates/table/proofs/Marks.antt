-- The marks of `table::apart`, by an identifier modulo 256: where one is not set, no identifier that set one is the same. Assumes nothing.
use Prim.Native.Nat.{ℕ, zero, suc, ◌+◌, ◌%◌, ◌≤◌, ◌<◌}
use mathlib.Core.Bool.{Bool, true, false, ◌||◌, not, false≢true}
use mathlib.Core.List.{List, [], ◌∷◌}
use mathlib.Core.Path.{◌≡◌, refl, sym, ◌∙◌}
use native.Mathlib.Numerals.{add-one}
use borrow.Author.Tests.{ne_eqb, eqb-true, eqb-false}
use lib.Dec.{eqb}
use lib.ListN.{length, get_or, set, drop, drop_of_length-le}
use lib.Seq.{drop-cons, get_or-set_same, get_or-set_other}
use Rattle.ground.specs.Lists.{all, any}
use Rattle.ground.proofs.Bools.{by_cases}
use Rattle.ground.proofs.Walks.{both, and_false, or_true}
use Rattle.table.specs.Column.{apart_in}

-- none is open, or the mark of its number is set
abbrev pub marked : List ℕ → ℕ → Bool
marked marks x = eqb x 0 || not (eqb (get_or marks (x % 256) 0) 0)

-- a mark that is set stays so
stays_marked : (marks : List ℕ) (m x : ℕ) → m < length marks → marked marks x ≡ true → marked (set marks m 1) x ≡ true
stays_marked marks m x h q =
    by_cases (eqb (x % 256) m)
    (λ t. let e = eqb-true (x % 256) m t in rw (e, get_or-set_same marks m 1 0 h) (or_true (eqb x 0)))
    (λ f. rw (get_or-set_other marks m (x % 256) 1 0 (eqb-false (x % 256) m f)) q)

stay_marked : (marks : List ℕ) (m : ℕ) (l : List ℕ) → m < length marks → all (marked marks) l ≡ true → all (marked (set marks m 1)) l ≡ true
unfolding all
stay_marked marks m [] h q = refl
stay_marked marks m (x ∷ xs) h q =
    let w = both (marked marks x) (all (marked marks) xs) q in
    rw (stays_marked marks m x h w.0) (stay_marked marks m xs h w.1)

-- a number without a mark isn't among those that have theirs
unmarked_other : (marks : List ℕ) (x : ℕ) (l : List ℕ) → (x ≡ 0 → ⊥) → get_or marks (x % 256) 0 ≡ 0 → all (marked marks) l ≡ true → any (eqb x) l ≡ false
unfolding all any
unmarked_other marks x [] p z q = refl
unmarked_other marks x (y ∷ ys) p z q =
    let w = both (marked marks y) (all (marked marks) ys) q in
    let n : eqb x y ≡ false = by_cases (eqb x y) (λ t. absurd (false≢true (sym (same (eqb-true x y t)) ∙ w.0))) (λ f. f) in
    rw n (unmarked_other marks x ys p z w.1)
  where
    same : x ≡ y → marked marks y ≡ false
    same e = rw (← e, ne_eqb x 0 p, z)

-- one number more, which is marked now
module _ (marks l : List ℕ) (a : apart_in l ≡ true) (q : all (marked marks) l ≡ true) (x : ℕ) (p : x ≡ 0 → ⊥) where
  pub apart_marked : get_or marks (x % 256) 0 ≡ 0 → apart_in (x ∷ l) ≡ true
  unfolding apart_in
  apart_marked z = rw (ne_eqb x 0 p, unmarked_other marks x l p z q) a

  pub marked_more : x % 256 < length marks → all (marked (set marks (x % 256) 1)) (x ∷ l) ≡ true
  unfolding all
  marked_more h = rw (stay_marked marks (x % 256) l h q, get_or-set_same marks (x % 256) 1 0 h, or_true (eqb x 0))

-- a column that is looked through from its end
pub marked_at : (marks l : List ℕ) (k : ℕ) → k < length l → marked marks (get_or l k 0) ≡ true → all (marked marks) (drop (k + 1) l) ≡ true → all (marked marks) (drop k l) ≡ true
unfolding all
marked_at marks l k h q r = let s = rw (add-one k) at r in rw (drop-cons l k 0 h, q) s

pub marked_past : (marks l : List ℕ) (i : ℕ) → length l ≤ i → all (marked marks) (drop i l) ≡ true
unfolding all
marked_past marks l i h = rw (drop_of_length-le l h)

pub is_marked_lem : (marks : List ℕ) (x : ℕ) → (get_or marks (x % 256) 0 ≡ 0 → ⊥) → marked marks x ≡ true
is_marked_lem marks x n = rw (ne_eqb (get_or marks (x % 256) 0) 0 n) (or_true (eqb x 0))

pub is_none : (marks : List ℕ) (x : ℕ) → x ≡ 0 → marked marks x ≡ true
is_none marks x q = rw q

pub dropped : (l : List ℕ) (k : ℕ) → k < length l → drop k l ≡ get_or l k 0 ∷ drop (k + 1) l
dropped l k h = rw (add-one k) (drop-cons l k 0 h)

-- two that are equal among the later ones are two among all
pub apart_drop : (l : List ℕ) (k : ℕ) → apart_in (drop k l) ≡ false → apart_in l ≡ false
unfolding apart_in
apart_drop l zero q = q
apart_drop [] (suc k) q = q
apart_drop (x ∷ xs) (suc k) q = rw (apart_drop xs k q) (and_false (eqb x 0 || not (any (eqb x) xs)))
