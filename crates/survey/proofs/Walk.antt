-- How the walk goes on by one record, from the end. Assumes nothing.
use Prim.Native.Nat.{ℕ, zero, suc, ◌+◌, ◌-◌, ◌/◌, ◌%◌, ◌^◌, ◌≤◌, ◌<◌}
use mathlib.Core.Bool.{Bool, true, false, ◌||◌, not}
use mathlib.Core.List.{List, [], ◌∷◌}
use mathlib.Core.Path.{◌≡◌, refl, sym, ap, ◌∙◌}
use native.Mathlib.Nat.{add-zero, le_of_suc-le-suc, not-suc-le-zero}
use native.Mathlib.Omega.{arith}
use borrow.Author.Tests.{ne_eqb, eqb-true, eqb-false}
use lib.Dec.{eqb}
use lib.ListN.{length, get_or, take, drop, length-set, length-take, length-drop}
use Rattle.std.specs.Prelude.{None, Some}
use Rattle.ground.specs.Choice.{when◌then◌else◌}
use Rattle.ground.proofs.Bools.{by_cases}
use Rattle.timed.specs.Timed.{waits}
use Rattle.call.specs.declared.Call.{Call}
use Rattle.call.specs.Record.{free_call}
use Rattle.survey.specs.declared.Asked.{Asked}
use Rattle.survey.specs.declared.Passed.{Passed}
use Rattle.marks.specs.Marks.{word_of, count_in, is_marked, with_mark, no_marks, with_request}
use Rattle.marks.proofs.Laws.{adds_nothing}
use Rattle.survey.specs.Survey.{unseen_of, request_in, passed_with, passed_of, marked_of, any_twice}

drop_at : (k n : ℕ) (l : List Call) → k < n → n ≤ length l → drop k (take n l) ≡ get_or l k free_call ∷ drop (suc k) (take n l)
drop_at k zero l h m = absurd (not-suc-le-zero h)
drop_at k (suc n) [] h m = absurd (not-suc-le-zero m)
drop_at zero (suc n) (x ∷ xs) h m = refl
drop_at (suc k) (suc n) (x ∷ xs) h m = drop_at k n xs (le_of_suc-le-suc h) (le_of_suc-le-suc m)

drop_all : (n : ℕ) (l : List Call) → drop n (take n l) ≡ []
drop_all zero l = refl
drop_all (suc n) [] = refl
drop_all (suc n) (x ∷ xs) = drop_all n xs

marks_full : (l : List Call) → length (marked_of l).1 ≡ 8
unfolding marked_of with_request
marks_full [] = refl
marks_full (c ∷ rest) = by_cases (waits (request_in c)) (λ w. rw w (length-set (marked_of rest).1 _ _ ∙ marks_full rest)) (λ w. rw w (marks_full rest))

-- how often a mark was set that was set before: the walk counts it
pub counted : List Call → ℕ
counted [] = 0
counted (c ∷ rest) = counted rest + (when waits (request_in c) then count_in (get_or (marked_of rest).1 (word_of (request_in c).identifier) 0) (request_in c).identifier else 0)

counted_few : (l : List Call) → counted l ≤ length l
unfolding counted
counted_few [] = omega arith
counted_few (c ∷ rest) = by_cases (waits (request_in c)) (λ w. rw w (omega (arith, counted_few rest))) (λ w. rw w (omega (arith, counted_few rest)))

any_pos : (n : ℕ) → 1 ≤ n → any_twice n ≡ true
any_pos n h = ap not (ne_eqb n 0 (λ e. absurd (omega (arith, h, e))))

any_more : (a x : ℕ) → any_twice (a + x % 2) ≡ any_twice a || eqb (x % 2) 1
any_more zero x = by_cases (eqb (x % 2) 1) (λ t. rw (eqb-true (x % 2) 1 t)) (λ f. let z : x % 2 ≡ 0 = omega (arith, eqb-false (x % 2) 1 f) in rw z)
any_more (suc a) x = rw (any_pos (suc a + x % 2) (omega arith), any_pos (suc a) (omega arith))

-- it was once or more exactly where the marks tell that two are the same
clash_more : (c : Call) (rest : List Call) → waits (request_in c) ≡ true → any_twice (counted rest) ≡ (marked_of rest).0 → any_twice (counted (c ∷ rest)) ≡ (with_request (marked_of rest) (request_in c)).0
unfolding counted with_request
clash_more c rest w e = rw (w, any_more (counted rest) (get_or (marked_of rest).1 (word_of (request_in c).identifier) 0 / 2 ^ ((request_in c).identifier % 64)), e)

counted_any : (l : List Call) → any_twice (counted l) ≡ (marked_of l).0
unfolding counted marked_of
counted_any [] = refl
counted_any (c ∷ rest) =
    by_cases (waits (request_in c)) (λ w. clash_more c rest w (counted_any rest)) (λ w. rw (w, adds_nothing (marked_of rest) (request_in c) w, add-zero) (counted_any rest))

-- whose request is noted
some_there : (b : Bool) (x id : ℕ) → (when b then Some x else None) ≡ Some id → (b ≡ true) × (x ≡ id)
some_there true x id e = (refl, cc)
some_there false x id e = absurd (cc)

none_there : (b : Bool) (x : ℕ) → (when b then Some x else None) ≡ None → b ≡ false
none_there true x e = absurd (cc)
none_there false x e = refl

module _ (q : Asked) (n : ℕ) (l : List Call) where
  -- what is noted, and marked, when the records from i on were seen
  abbrev pub seen : ℕ → Passed
  seen i = passed_of q n i (drop i (take n l))

  abbrev pub set_by : ℕ → Bool × List ℕ
  set_by i = marked_of (drop i (take n l))

  abbrev pub twice_by : ℕ → ℕ
  twice_by i = counted (drop i (take n l))

  pub twice_any : (i : ℕ) → any_twice (twice_by i) ≡ (set_by i).0
  twice_any i = counted_any (drop i (take n l))

  pub twice_none : 0 ≡ twice_by n
  unfolding counted
  twice_none = rw (drop_all n l)

  pub twice_few : (i : ℕ) → twice_by i ≤ n
  twice_few i = omega (arith, counted_few (drop i (take n l)), length-drop i (take n l), length-take n l)

  pub seen_none : unseen_of n ≡ seen n
  unfolding passed_of
  seen_none = rw (drop_all n l)

  pub set_full : (i : ℕ) → length (set_by i).1 ≡ 8
  set_full i = marks_full (drop i (take n l))

  pub set_none : no_marks ≡ set_by n
  unfolding marked_of
  set_none = rw (drop_all n l)

  module _ (i : ℕ) (h : 1 ≤ i) (m : i ≤ n) (k : n ≤ length l) where
    -- the record
    abbrev r : Call
    r = get_or l (i - 1) free_call

    one_more : drop (i - 1) (take n l) ≡ r ∷ drop i (take n l)
    one_more = before i h m
      where
        before : (j : ℕ) → 1 ≤ j → j ≤ n → drop (j - 1) (take n l) ≡ get_or l (j - 1) free_call ∷ drop j (take n l)
        before zero g r = absurd (not-suc-le-zero g)
        before (suc j) g r = let e : suc j - 1 ≡ j = omega arith in rw e (drop_at j n l r k)

    pub seen_next : passed_with q (seen i) r (i - 1) ≡ seen (i - 1)
    unfolding passed_of
    seen_next = let e : suc (i - 1) ≡ i = omega (arith, h) in rw (one_more, e)

    set_next : with_request (set_by i) (request_in r) ≡ set_by (i - 1)
    unfolding marked_of
    set_next = rw one_more

    twice_next : twice_by i + (when waits (request_in r) then count_in (get_or (set_by i).1 (word_of (request_in r).identifier) 0) (request_in r).identifier else 0)
        ≡ twice_by (i - 1)
    unfolding counted
    twice_next = rw one_more

    -- where the record's request is open the walk sets its mark, and else none: v is what is noted with the record
    module _ (v : Passed) (e : v ≡ seen (i - 1)) where
      noted : v ≡ passed_with q (seen i) r (i - 1)
      noted = e ∙ sym seen_next

      pub set_open : (id : ℕ) → v.requested ≡ Some id → ((set_by i).0 || is_marked (set_by i).1 id, with_mark (set_by i).1 id) ≡ set_by (i - 1)
      unfolding with_request
      set_open id t = let o = some_there (waits (request_in r)) (request_in r).identifier id (rw noted at t) in rw (← o.1) (rw o.0 at set_next)

      pub set_else : v.requested ≡ None → set_by i ≡ set_by (i - 1)
      set_else f = let o = none_there (waits (request_in r)) (request_in r).identifier (rw noted at f) in sym (adds_nothing (set_by i) (request_in r) o) ∙ set_next

      pub twice_open : (id : ℕ) → v.requested ≡ Some id → twice_by i + count_in (get_or (set_by i).1 (word_of id) 0) id ≡ twice_by (i - 1)
      twice_open id t = let o = some_there (waits (request_in r)) (request_in r).identifier id (rw noted at t) in rw (← o.1) (rw o.0 at twice_next)

      pub twice_else : v.requested ≡ None → twice_by i ≡ twice_by (i - 1)
      twice_else f = let o = none_there (waits (request_in r)) (request_in r).identifier (rw noted at f) in omega (arith, rw o at twice_next)
