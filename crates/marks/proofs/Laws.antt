-- What one mark more does to the others, what a mark that is not set tells, and that a request that does not wait adds nothing. Assumes nothing.
use Prim.Native.Nat.{ℕ, ◌%◌, ◌<◌}
use mathlib.Core.Bool.{Bool, true, false, ◌||◌, false≢true}
use mathlib.Core.List.{List, [], ◌∷◌}
use mathlib.Core.Path.{◌≡◌, refl, sym, ap, ◌∙◌}
use native.Mathlib.Omega.{arith}
use borrow.Author.Tests.{eq-eqb, eqb-true, eqb-false}
use lib.Dec.{eqb}
use lib.ListN.{length, get_or}
use lib.Seq.{get_or-set_same, get_or-set_other}
use Rattle.ground.specs.Lists.{all, any}
use Rattle.ground.proofs.Bools.{by_cases}
use Rattle.ground.proofs.Walks.{both}
use Rattle.timed.specs.declared.Pending.{Pending}
use Rattle.timed.specs.Timed.{waits}
use Rattle.remote.specs.declared.Pendings.{Pendings}
use Rattle.holding.specs.Idle.{four_idle}
use Rattle.holding.proofs.Idle.{none_waits_lem}
use Rattle.marks.specs.Marks.{word_of, put_in, is_marked, with_mark, with_request, with_four}
use Rattle.marks.proofs.Bits.{bit_set, bit_stays}

-- ---- one mark more
module _ (marks : List ℕ) (full : length marks ≡ 8) where
  there : (x : ℕ) → word_of x < length marks
  there x = omega (arith, full)

  pub marked_with : (x : ℕ) → is_marked (with_mark marks x) x ≡ true
  marked_with x = rw (get_or-set_same marks (word_of x) (put_in (get_or marks (word_of x) 0) x) 0 (there x)) (eq-eqb _ _ (bit_set (get_or marks (word_of x) 0) (x % 64)))

  -- a mark that is set stays so
  pub marked_stays : (x y : ℕ) → is_marked marks y ≡ true → is_marked (with_mark marks x) y ≡ true
  marked_stays x y h =
      by_cases (eqb (word_of y) (word_of x))
      (λ t. let e = eqb-true (word_of y) (word_of x) t in rw (e, get_or-set_same marks (word_of x) (put_in (get_or marks (word_of x) 0) x) 0 (there x)) (eq-eqb _ _ (bit_stays (get_or marks (word_of x) 0) (x % 64) (y % 64) (eqb-true _ _ (rw e at h)))))
      (λ f. rw (get_or-set_other marks (word_of x) (word_of y) (put_in (get_or marks (word_of x) 0) x) 0 (eqb-false (word_of y) (word_of x) f)) h)

  pub all_stay : (x : ℕ) (l : List ℕ) → all (is_marked marks) l ≡ true → all (is_marked (with_mark marks x)) l ≡ true
  unfolding all
  all_stay x [] h = refl
  all_stay x (y ∷ ys) h = let w = both (is_marked marks y) (all (is_marked marks) ys) h in rw (marked_stays x y w.0) (all_stay x ys w.1)

-- an identifier without a mark is none of those that have theirs
pub other : (marks : List ℕ) (x : ℕ) (l : List ℕ) → is_marked marks x ≡ false → all (is_marked marks) l ≡ true → any (eqb x) l ≡ false
unfolding all any
other marks x [] u h = refl
other marks x (y ∷ ys) u h =
    let w = both (is_marked marks y) (all (is_marked marks) ys) h in
    let d : eqb x y ≡ false = by_cases (eqb x y) (λ t. absurd (false≢true (sym u ∙ ap (is_marked marks) (eqb-true x y t) ∙ w.0))) (λ f. f) in
    rw d (other marks x ys u w.1)

-- ---- a request that doesn't wait adds nothing
nor : (b : Bool) → b || false ≡ b
nor true = refl
nor false = refl

pub adds_nothing : (s : Bool × List ℕ) (p : Pending) → waits p ≡ false → with_request s p ≡ s
unfolding with_request
adds_nothing s p h = rw (h, nor s.0)

idle_adds_nothing : (s : Bool × List ℕ) (p : Pending) → eqb p.wait 0 ≡ true → with_request s p ≡ s
idle_adds_nothing s p h = adds_nothing s p (rw (eqb-true p.wait 0 h))

-- where none of the four waits nothing is added
pub four_idle_lem : (s : Bool × List ℕ) (p : Pendings) → four_idle p ≡ true → with_four s p ≡ s
four_idle_lem s p h =
    let n = none_waits_lem p h in
    rw (idle_adds_nothing s p.activation n.activation, idle_adds_nothing s p.deactivation n.deactivation, idle_adds_nothing s p.interrogation n.interrogation, idle_adds_nothing s p.check n.check)
