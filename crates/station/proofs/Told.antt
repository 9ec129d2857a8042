-- Over a run, notices and numbers go by the lists of what the calls took account of. Assumes nothing.
use Prim.Native.Nat.{ℕ, zero, suc}
use mathlib.Core.Path.{◌≡◌, refl}
use mathlib.Core.Bool.{Bool, not, ◌&&◌}
use mathlib.Core.List.{List, [], ◌∷◌}
use lib.Dec.{T, ltb, eqb, eqb→eq, ltb→lt, T_not}
use lib.ListN.{length, replicate, get_or-eq_default}
use lib.Seq.{get_or-set_same}
use borrow.Author.Tests.{ltb-true, ltb-false}
use Rattle.ground.proofs.Bools.{and_l, and_r, and_i, eq→eqb, from_true, from_false, by_cases, when_has}
use Rattle.event.specs.declared.Event.{Event}
use Rattle.event.specs.Remote.{of_remote}
use Rattle.notice.specs.declared.Dli1.{Dli1}
use Rattle.notice.specs.Whole.{Told}
use Rattle.call.specs.declared.Call.{Call}
use Rattle.call.specs.Record.{free_call}
use Rattle.call.specs.Told.{waiting_of, Remembers, Learns, GoesBy, TellsOf}
use Rattle.call.proofs.Heard.{none_told, learns_none}
use Rattle.call.proofs.Told.{act_told}
use Rattle.call.proofs.Recalled.{Recalled, sound_recalled}
use Rattle.station.specs.declared.Station.{Station}
use Rattle.station.specs.declared.Answer.{Answer}
use Rattle.station.specs.Station.{fresh_station}
use Rattle.station.specs.Table.{at, identifier_for, place}
use Rattle.station.specs.Refusals.{refusal}
use Rattle.station.specs.Step.{effect_at, on_call, step, turn, turns}
use Rattle.station.specs.Demand3.{acts}
use Rattle.station.specs.Told.{Lists, news, lists_after, Fits, ByLists, over, onward, RunsByLists, nothing_told, FreshByLists, SoundFits}
use Rattle.station.proofs.Numbers.{Passed, passed}
use Rattle.station.proofs.Whole.{record_sound}
use Rattle.station.proofs.Requests.{drawn_passes}
use Rattle.station.proofs.Addressed.{addressed_there}
use Rattle.station.proofs.Places.{others_stay}
use Rattle.station.proofs.Kept.{step_sound, fresh_sound, call_made_lem}
use Rattle.station.proofs.Demand3.{step_acts, idle_answer_lem, idle_calls}

module _ (lists : Lists) (s : Station) (calls : List Call) (e : Event) (fits : Fits lists calls) where
  -- the record that the event acts on
  told_there : T (acts s calls e)
      → TellsOf (lists.told (place calls e)) (lists.accepted (place calls e)) (at calls (place calls e)) e (effect_at s calls e (place calls e))
  told_there u =
      let i = place calls e in
      let p : Passed s calls e = passed s calls e (eqb→eq (refusal s calls e) 0 (and_l (eqb (refusal s calls e) 0) (on_call calls e) u)) in
      let near : T (not (of_remote e)) = search (and_l, and_r) in
      let l = ltb→lt i (length calls) (search (and_l, and_r)) in
      let (a, b) = addressed_there s calls e p in
      act_told s.last (identifier_for s calls) (lists.told i) (lists.accepted i) (at calls i) e (drawn_passes s calls p.whole) (record_sound s calls p.whole i l) p.timely (call_made_lem e near p.made) a b (fits i).0 (fits i).1

  learns : Learns (lists.told (place calls e)) (news lists (turn s calls e)) (step s calls e).answer.notice (step s calls e).answer.number
  learns =
      by_cases (acts s calls e)
      (λ y. let u = from_true (acts s calls e) y in rw (step_acts s calls e u, y) (told_there u).learns)
      (λ n. rw (idle_answer_lem s calls e (from_false (acts s calls e) n), n)
      (when_has (λ (a : Answer). Learns (lists.told (place calls e)) [] a.notice a.number) (eqb (refusal s calls e) 0) (λ _. learns_none (lists.told (place calls e))) (λ _. learns_none (lists.told (place calls e)))))

  -- the record at the place of an event that acts
  acted : T (acts s calls e) → at (step s calls e).calls (place calls e) ≡ (effect_at s calls e (place calls e)).call
  acted u =
      let i = place calls e in
      let l = ltb→lt i (length calls) (search (and_l, and_r)) in
      rw (step_acts s calls e u) (get_or-set_same calls i (effect_at s calls e i).call free_call l)

  goes : T (acts s calls e)
      → GoesBy (lists.accepted (place calls e)) (at calls (place calls e)) e (step s calls e).answer.sent (at (step s calls e).calls (place calls e))
  goes u = rw (acted u, step_acts s calls e u) (told_there u).goes

  -- and any other
  stays : (j : ℕ) → T (not (acts s calls e && eqb j (place calls e))) → at (step s calls e).calls j ≡ at calls j
  stays j n =
      by_cases (acts s calls e)
      (λ y. others_stay s calls e j (λ q. T_not (acts s calls e && eqb j (place calls e)) n
      (and_i (acts s calls e) (eqb j (place calls e)) (from_true (acts s calls e) y) (eq→eqb j (place calls e) q))))
      (λ o. rw (idle_calls s calls e (from_false (acts s calls e) o)))

  fits_after : Fits (lists_after lists (turn s calls e)) (step s calls e).calls
  fits_after j =
      let here : Bool = acts s calls e && eqb j (place calls e) in
      let u : T here → T (acts s calls e) = and_l (acts s calls e) (eqb j (place calls e)) in
      let q : T here → j ≡ place calls e = λ t. eqb→eq j (place calls e) (and_r (acts s calls e) (eqb j (place calls e)) t) in (
        when_has (λ (l : List Told). Remembers l (at (step s calls e).calls j).history) here
            (λ t. rw (q t, acted (u t)) (told_there (u t)).remembers)
            (λ n. rw (stays j n) (fits j).0),
        when_has (λ (l : List Dli1). waiting_of (at (step s calls e).calls j) ≡ l) here
            (λ t. rw (q t, acted (u t)) (told_there (u t)).waits)
            (λ n. rw (stays j n) (fits j).1),
      )

  by_lists : ByLists lists (turn s calls e)
  by_lists = record { learns = learns; goes = goes; fits = fits_after }

pub runs_by_lists : RunsByLists
unfolding turns
runs_by_lists l s calls [] h fits = over
runs_by_lists l s calls (e ∷ es) h fits =
    onward (by_lists l s calls e fits)
    (runs_by_lists (lists_after l (turn s calls e)) (step s calls e).station (step s calls e).calls es (step_sound s calls e h) (fits_after l s calls e fits))

none_fits : (n : ℕ) → Fits nothing_told (replicate n free_call)
none_fits zero i = (none_told, refl)
none_fits (suc n) zero = (none_told, refl)
none_fits (suc n) (suc i) = none_fits n i

pub fresh_by_lists : FreshByLists
fresh_by_lists limit enabled allowed n es h a b =
    runs_by_lists nothing_told (fresh_station limit enabled allowed) (replicate n free_call) es (fresh_sound limit enabled allowed n h a b) (none_fits n)

pub sound_fits : SoundFits
sound_fits s calls h = record {
  lists = record { told = λ i. (recalled i).list; accepted = λ i. waiting_of (at calls i) };
  fits = λ i. ((recalled i).remembers, refl);
}
  where
    -- past the table's end, a free record
    recalled : (i : ℕ) → Recalled (at calls i).history
    recalled i =
        by_cases (ltb i (length calls))
        (λ y. sound_recalled s.last (at calls i) (record_sound s calls h i (ltb-true i (length calls) y)))
        (λ n. rw (get_or-eq_default calls free_call (ltb-false i (length calls) n)) (record { list = []; remembers = none_told }))
