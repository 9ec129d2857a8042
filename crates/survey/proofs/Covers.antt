-- What the marks of a walk tell: where each record is sound and no mark was set twice no two open requests of both tables share an identifier, and an identifier whose mark is not set
-- is none of theirs. Assumes nothing.
use Prim.Native.Nat.{ℕ}
use mathlib.Core.Bool.{Bool, true, false}
use mathlib.Core.List.{List, [], ◌∷◌, ◌++◌, append_assoc, append-nil}
use mathlib.Core.Path.{◌≡◌, refl, sym, subst, ◌∙◌}
use lib.Dec.{eqb, eqb→eq}
use lib.ListN.{length, length-set}
use Rattle.ground.specs.Lists.{all, any}
use Rattle.ground.proofs.Bools.{by_cases, is_true, from_true, or_left}
use Rattle.ground.proofs.Walks.{both, neither}
use Rattle.identifier.specs.Identifier.{taken, distinct}
use Rattle.identifier.proofs.Joined.{distinct_joined}
use Rattle.timed.specs.declared.Pending.{Pending}
use Rattle.timed.specs.Timed.{waits, Timer, own, identifiers_of}
use Rattle.remote.specs.Held.{timers_of}
use Rattle.call.specs.declared.Call.{Call}
use Rattle.call.specs.Record.{request_of, requested}
use Rattle.call.specs.Soundness.{sound_call}
use Rattle.station.specs.Table.{requests_of}
use Rattle.marks.specs.Marks.{is_marked, with_mark, with_request, with_four}
use Rattle.marks.proofs.Laws.{marked_with, all_stay, other, adds_nothing}
use Rattle.survey.specs.declared.Asked.{Asked}
use Rattle.survey.specs.Survey.{request_in, marked_of, survey_of}
use Rattle.survey.proofs.Laws.{noted, same_request}

-- the identifiers that were marked: each has its mark, and where no mark was set twice they are distinct
record Covers (s : Bool × List ℕ) (held : List ℕ) : Type 0 where
  full : length s.1 ≡ 8
  marks : all (is_marked s.1) held ≡ true
  apart : s.0 ≡ false → distinct held ≡ true

all_behind : (m : List ℕ) (x : ℕ) (l : List ℕ) → all (is_marked m) l ≡ true → is_marked m x ≡ true → all (is_marked m) (l ++ (x ∷ [])) ≡ true
unfolding all
all_behind m x [] h e = rw e
all_behind m x (y ∷ ys) h e = let w = both (is_marked m y) (all (is_marked m) ys) h in rw w.0 (all_behind m x ys w.1 e)

distinct_behind : (x : ℕ) (l : List ℕ) → distinct l ≡ true → taken l x ≡ false → distinct (l ++ (x ∷ [])) ≡ true
unfolding distinct any
distinct_behind x l d f =
    is_true _
    (distinct_joined l (x ∷ []) (from_true _ d) tt
    (λ y t u. let e : y ≡ x = eqb→eq y x (or_left (eqb y x) false (λ z. z) u) in rw (e, f) at t))

-- one that waits more: before the others, or behind them
module _ (s : Bool × List ℕ) (p : Pending) (w : waits p ≡ true) (held : List ℕ) (c : Covers s held) where
  as_full : length (with_request s p).1 ≡ 8
  unfolding with_request
  as_full = rw w (length-set s.1 _ _ ∙ c.full)

  none_same : (with_request s p).0 ≡ false → (s.0 ≡ false) × (taken held p.identifier ≡ false)
  unfolding with_request
  none_same h = let n = neither s.0 (is_marked s.1 p.identifier) (rw w at h) in (n.0, other s.1 p.identifier held n.1 c.marks)

  as_marked : (with_request s p).1 ≡ with_mark s.1 p.identifier
  unfolding with_request
  as_marked = rw w

  both_marked : all (is_marked (with_mark s.1 p.identifier)) (p.identifier ∷ held) ≡ true
  unfolding all
  both_marked = rw (marked_with s.1 c.full p.identifier) (all_stay s.1 c.full p.identifier held c.marks)

  one_before : Covers (with_request s p) (p.identifier ∷ held)
  unfolding distinct
  one_before = record {
    full = as_full;
    marks = subst (λ (m : List ℕ). all (is_marked m) (p.identifier ∷ held) ≡ true) (sym as_marked) both_marked;
    apart = λ h. let n = none_same h in rw n.1 (c.apart n.0);
  }

  one_behind : Covers (with_request s p) (held ++ (p.identifier ∷ []))
  unfolding with_request
  one_behind = record {
    full = as_full;
    marks = rw w (all_behind (with_mark s.1 p.identifier) p.identifier held (all_stay s.1 c.full p.identifier held c.marks) (marked_with s.1 c.full p.identifier));
    apart = λ h. let n = none_same h in distinct_behind p.identifier held (c.apart n.0) n.1;
  }

-- those of a table whose records are sound
covers_table : (q : Asked) (l : List Call) → all (sound_call q.last) l ≡ true → Covers (marked_of l) (requests_of l)
unfolding marked_of requests_of all distinct
covers_table q [] s = record { full = refl; marks = refl; apart = λ h. refl }
covers_table q (c ∷ rest) s =
    let w = both (sound_call q.last c) (all (sound_call q.last) rest) s in
    let r = covers_table q rest w.1 in
    by_cases (requested c)
    (λ t. rw (same_request q c t w.0, t) (one_before (marked_of rest) (request_of c) t (requests_of rest) r))
    (λ f. rw (adds_nothing (marked_of rest) (request_in c) (noted q c w.0 ∙ f), f) r)

-- and those of a list of requests behind them
unfoldable with_all : Bool × List ℕ → List Timer → Bool × List ℕ
with_all s [] = s
with_all s (t ∷ rest) = with_all (with_request s t.request) rest

covers_all : (s : Bool × List ℕ) (l : List Timer) (held : List ℕ) → Covers s held → Covers (with_all s l) (held ++ identifiers_of l)
unfolding with_all identifiers_of
covers_all s [] held c = rw (append-nil held) c
covers_all s (t ∷ rest) held c = rw (← append_assoc held (own t) (identifiers_of rest)) (covers_all (with_request s t.request) rest (held ++ own t) more)
  where
    more : Covers (with_request s t.request) (held ++ own t)
    more = by_cases (waits t.request) (λ w. rw w (one_behind s t.request w held c)) (λ w. rw (w, adds_nothing s t.request w, append-nil held) c)

module _ (q : Asked) (n : ℕ) (l : List Call) (sound : all (sound_call q.last) l ≡ true) where
  covers_both : Covers (with_four (marked_of l) q.pending) (requests_of l ++ identifiers_of (timers_of q.pending))
  unfolding with_all
  covers_both = covers_all (marked_of l) (timers_of q.pending) (requests_of l) (covers_table q l sound)

  pub told_apart : (survey_of q n l).clash ≡ false → distinct (requests_of l ++ identifiers_of (timers_of q.pending)) ≡ true
  told_apart = covers_both.apart

  pub told_free : (survey_of q n l).marked ≡ false → taken (requests_of l ++ identifiers_of (timers_of q.pending)) q.next ≡ false
  told_free h = other (with_four (marked_of l) q.pending).1 q.next (requests_of l ++ identifiers_of (timers_of q.pending)) h covers_both.marks
