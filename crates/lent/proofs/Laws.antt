-- What was noted and picked of a lent table decides the event as the definition does, on every table. Assumes nothing.
use Prim.Native.Nat.{ℕ, ◌<◌, ◌≤◌}
use mathlib.Core.Bool.{Bool, true, false, ◌&&◌, ◌||◌, not}
use mathlib.Core.List.{List}
use mathlib.Core.Path.{◌≡◌, refl, sym, ap, ◌∙◌}
use native.Mathlib.Omega.{arith}
use borrow.Author.Tests.{lt-leb, leb-true, leb-false}
use lib.Dec.{T, leb}
use lib.ListN.{length, take}
use lib.Seq.{take-length}
use Rattle.ground.specs.Choice.{when◌then◌else◌}
use Rattle.ground.specs.Lists.{first, all}
use Rattle.ground.proofs.Bools.{by_cases, is_true, is_false}
use Rattle.ground.proofs.Walks.{and_false}
use Rattle.event.specs.declared.Event.{Event}
use Rattle.event.specs.Kinds.{diverts}
use Rattle.event.specs.Remote.{asks}
use Rattle.identifier.specs.Identifier.{distinct, first_free}
use Rattle.call.specs.declared.Call.{Call}
use Rattle.call.specs.Record.{is_free}
use Rattle.call.specs.Incoming.{due}
use Rattle.call.specs.Soundness.{sound_call}
use Rattle.call.specs.Act.{act}
use Rattle.remote.specs.declared.Pendings.{Pendings}
use Rattle.station.specs.declared.Station.{Station}
use Rattle.station.specs.Station.{station_ok}
use Rattle.station.specs.Table.{at, place, sound, sound_table, open_identifiers, identifier_for}
use Rattle.bounds.specs.Bounds.{in_bounds}
use Rattle.slice.specs.Table.{fit_of}
use Rattle.slice.proofs.Bounds.{fit_short, fit_long, fit_le}
use Rattle.draw.specs.Column.{over, joined_of, identifier_in, frees, column_of}
use Rattle.draw.proofs.Held.{requests_over}
use Rattle.draw.proofs.Four.{joined_free}
use Rattle.table.specs.Column.{apart_in}
use Rattle.table.proofs.Columns.{column_apart}
use Rattle.survey.specs.declared.Noted.{Noted}
use Rattle.survey.specs.Survey.{survey_of}
use Rattle.survey.proofs.Laws.{survey_sound, survey_free, survey_due}
use Rattle.survey.proofs.Covers.{told_apart, told_free}
use Rattle.sight.specs.declared.Seen.{Seen}
use Rattle.outcome.specs.Outcome.{station_on, station_far}
use Rattle.deed.specs.Deed.{acted_of}
use Rattle.turn.specs.Turn.{Turn, Refused, Far, Done, seen_in, turn_of, moved_of, decided_of, Sees}
use Rattle.turn.proofs.Laws.{sees_in, same_act, same_moved, same_next, same_station, turn_same}
use Rattle.pick.specs.declared.Input.{Input}
use Rattle.pick.specs.declared.Pick.{Pick}
use Rattle.pick.specs.Pick.{asked_of, place_seen, pending_in, wants_column, from_column, as_it_stands, picked_of}
use Rattle.decision.specs.Decision.{decision_of, decision_on, seen_by, decision_by}
use Rattle.decision.proofs.Laws.{There, turn_there}

-- ---- whoever sees enough, at the definition's place, decides the same
module _ (s : Station) (calls : List Call) (e : Event) (v : Seen) (z : Sees s calls e v) (p : v.place ≡ place calls e) where
  same_after : station_on s e v.identifier ≡ station_on s e (identifier_for s calls)
  same_after = same_station s calls e v z ∙ sym (same_station s calls e (seen_in s calls e) (sees_in s calls e))

  -- the record where the event acts is the definition's; an identifier that isn't the one to be drawn is not read
  same_acted : v.place < v.len → acted_of e v ≡ acted_of e (seen_in s calls e)
  same_acted l =
      let c : v.call ≡ at calls (place calls e) = z.there (rw (← z.size) l) ∙ ap (at calls) p in
      ap (λ (d : Call). act d e v.identifier) c ∙ same_act s calls e v z (at calls (place calls e))

  same_far : station_far s e v.identifier (moved_of s e v).remote ≡ station_far s e (identifier_for s calls) (moved_of s e (seen_in s calls e)).remote
  same_far = rw (same_moved s calls e v z, same_next s calls e v z)

  same_decision : (t : Turn) → There v t → decision_of s e v t ≡ decision_of s e (seen_in s calls e) t
  same_decision (Refused code) h = refl
  same_decision Far h = rw (same_moved s calls e v z, same_next s calls e v z)
  same_decision Done h = rw (same_acted h, p, same_after)

  -- where the table passed its test
  passed_there : (b : Bool) → There v (when b then turn_of s e v else Refused 1)
  passed_there true = turn_there s e v
  passed_there false = tt

  -- the test of the table is the definition's
  by_test : (t : Bool) → t ≡ sound s calls → decision_of s e v (when t then turn_of s e v else Refused 1) ≡ decision_on s calls e
  unfolding decision_on decided_of
  by_test t q = rw q (same_decision (when sound s calls then turn_of s e v else Refused 1) (passed_there (sound s calls)) ∙ rw (turn_same s calls e v z) (ap (decision_of s e (seen_in s calls e)) (turned (sound s calls))))
    where
      turned : (b : Bool) → (when b then turn_of s e (seen_in s calls e) else Refused 1) ≡ (when not b then Refused 1 else turn_of s e (seen_in s calls e))
      turned true = refl
      turned false = refl

-- ---- as many records as are worked on are in the table
pub short : (len n : ℕ) → n ≡ fit_of len → (n ≤ len) × (n ≤ 64)
short len n e = rw e (fit_le len)

-- ---- what the code of `picked` found comes to, by its test t
module _ (input : Input) (v : Noted) (n : ℕ) (ys : List Call) (t : Bool) (test : t ≡ wants_column v input) where
  pub picked_wanted : T t → (h : List ℕ) → h ≡ column_of n ys → (p : Pick) → p ≡ from_column input v h → p ≡ picked_of input v n ys
  picked_wanted w h q p e = e ∙ rw (← test, is_true t w, q)

  pub picked_else : T (not t) → (p : Pick) → p ≡ as_it_stands input → p ≡ picked_of input v n ys
  picked_else w p e = e ∙ rw (← test, is_false t w)

regroup : (a b c d : Bool) → (a && b) && c && d ≡ a && b && (c && d)
regroup true true c d = refl
regroup true false c d = refl
regroup false b c d = refl

-- ---- a table of up to 64 records
module _ (input : Input) (ys : List Call) where
  abbrev s : Station
  s = input.station

  abbrev e : Event
  e = input.event

  -- what is noted of the whole table, and picked
  abbrev Whole : Noted
  Whole = survey_of (asked_of input) (length ys) ys

  abbrev Chosen : Pick
  Chosen = picked_of input Whole (length ys) ys

  free_place : Whole.free ≡ first is_free ys
  free_place = let h = survey_free (asked_of input) (length ys) 0 ys (omega arith) in omega (arith, h)

  abbrev p : Pendings
  p = pending_in input

  abbrev request : Bool
  request = diverts e || asks e

  column_drawn : request ≡ true → identifier_in e (column_of (length ys) ys) p s.next ≡ identifier_for s ys
  column_drawn d = rw d (joined_free 69 (over (length ys) ys frees) p s.next ∙ rw (requests_over (length ys) ys, take-length ys))

  all_apart : apart_in (joined_of (column_of (length ys) ys) p) ≡ distinct (open_identifiers s ys)
  all_apart = column_apart (length ys) ys p ∙ rw (take-length ys)

  -- where each record is sound, what is noted is the definition's
  module _ (well : all (sound_call s.last) ys ≡ true) where
    due_place : Whole.due ≡ first (due e.time) ys
    due_place = let h = survey_due (asked_of input) (length ys) e.time 0 ys well refl (omega arith) in omega (arith, h)

    same_place : place_seen Whole input ≡ place ys e
    same_place = rw (free_place, due_place)

    no_clash : Whole.clash ≡ false → true ≡ distinct (open_identifiers s ys)
    no_clash f = sym (told_apart (asked_of input) (length ys) ys well f)

    -- the next identifier is drawn where it has no mark
    next_drawn : Whole.marked ≡ false → s.next ≡ identifier_for s ys
    unfolding first_free
    next_drawn f = rw (told_free (asked_of input) (length ys) ys well f)

    -- what is picked: no two identifiers are the same, and a request's is the definition's
    chosen_apart : Chosen.apart ≡ distinct (open_identifiers s ys)
    chosen_apart =
        by_cases Whole.clash
        (λ t. rw t all_apart)
        (λ f. by_cases (Whole.marked && request) (λ d. rw (f, d) (no_clash f)) (λ d. rw (f, d) (no_clash f)))

    chosen_drawn : request ≡ true → Chosen.identifier ≡ identifier_for s ys
    chosen_drawn d =
        by_cases Whole.clash
        (λ t. rw t (column_drawn d))
        (λ f. by_cases Whole.marked (λ t. rw (f, t, d) (rw d at (column_drawn d))) (λ u. rw (f, u) (next_drawn u)))

    sees_table : Sees s ys e (seen_by input Whole (length ys) Chosen (at ys (place_seen Whole input)))
    sees_table = record {
      size = refl;
      near = λ l. same_place;
      far = λ l. rw same_place l;
      there = λ l. refl;
      drawn = chosen_drawn;
    }

    -- the test behind number 1
    tested : in_bounds (length ys) s && Whole.sound && Chosen.apart ≡ sound s ys
    unfolding sound
    tested =
        rw (chosen_apart, survey_sound (asked_of input) (length ys) 0 ys)
        (regroup (leb 1 (length ys) && leb (length ys) 64) (station_ok s) (all (sound_call s.last) ys) (distinct (open_identifiers s ys)))

    sound_is : decision_by input Whole (length ys) Chosen (at ys (place_seen Whole input)) ≡ decision_on s ys e
    sound_is = by_test s ys e (seen_by input Whole (length ys) Chosen (at ys (place_seen Whole input))) sees_table same_place _ tested

  -- and where one is not, the event is refused with 1, whatever else is noted
  unsound : all (sound_call s.last) ys ≡ false → sound s ys ≡ false
  unfolding sound
  unsound f = rw f (and_false ((leb 1 (length ys) && leb (length ys) 64) && station_ok s))

  unsound_is : all (sound_call s.last) ys ≡ false → decision_by input Whole (length ys) Chosen (at ys (place_seen Whole input)) ≡ decision_on s ys e
  unfolding decision_on decided_of
  unsound_is f =
      let t : in_bounds (length ys) s && Whole.sound && Chosen.apart ≡ false = lost (in_bounds (length ys) s) Whole.sound Chosen.apart (survey_sound (asked_of input) (length ys) 0 ys ∙ f) in
      let u : sound s ys ≡ false = unsound f in
      rw (t, u)
    where
      lost : (a b d : Bool) → b ≡ false → a && b && d ≡ false
      lost true b d h = rw h
      lost false b d h = refl

  short_is : decision_by input Whole (length ys) Chosen (at ys (place_seen Whole input)) ≡ decision_on s ys e
  short_is = by_cases (all (sound_call s.last) ys) sound_is unsound_is

-- ---- a table over 64 records is refused as the empty one is
module _ (input : Input) (ys : List Call) (h : 64 < length ys) where
  long_unsound : sound input.station ys ≡ false
  unfolding sound
  long_unsound = rw (lt-leb (length ys) 64 h) (never (leb 1 (length ys)))
    where
      never : (b : Bool) → ((b && false) && station_ok input.station && sound_table input.station ys) ≡ false
      never true = refl
      never false = refl

  long_is : (v : Noted) (p : Pick) (c : Call) → decision_by input v 0 p c ≡ decision_on input.station ys input.event
  unfolding decision_on decided_of
  long_is v p c = rw long_unsound

-- ---- any table
module _ (input : Input) (ys : List Call) (n : ℕ) (v : Noted) (i : ℕ) (c : Call) (p : Pick) (e₁ : n ≡ fit_of (length ys))
    (e₂ : v ≡ survey_of (asked_of input) n (take n ys)) (e₃ : i ≡ place_seen v input) (e₄ : c ≡ at (take n ys) i) (e₅ : p ≡ picked_of input v n ys) where
  pub looked_is : decision_by input v n p c ≡ decision_on input.station ys input.event
  looked_is =
      by_cases (leb (length ys) 64)
      (λ t.
      let f : n ≡ length ys = e₁ ∙ fit_short (length ys) (leb-true (length ys) 64 t) in
      let g : v ≡ Whole input ys = e₂ ∙ rw (f, take-length ys) in
      let k : c ≡ at ys (place_seen (Whole input ys) input) = e₄ ∙ rw (f, take-length ys, e₃, g) in
      rw (e₅, k, g, f) (short_is input ys))
      (λ t.
      let f : n ≡ 0 = e₁ ∙ fit_long (length ys) (leb-false (length ys) 64 t) in
      rw f (long_is input ys (leb-false (length ys) 64 t) v p c))
