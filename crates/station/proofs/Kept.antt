-- "Each done event leaves a sound table." Assumes nothing.
use Prim.Native.Nat.{ℕ, zero, suc, ◌<◌}
use mathlib.Core.Path.{◌≡◌, refl}
use mathlib.Core.Bool.{Bool, true, not, ◌||◌}
use mathlib.Core.List.{List, [], ◌∷◌, ◌++◌}
use lib.Dec.{T, eqb, eqb→eq, le→leb, not_T}
use lib.ListN.{length, set, length-set, replicate, length-replicate}
use Rattle.ground.specs.Lists.{all}
use Rattle.ground.proofs.Bools.{and_l, and_r, and_i, is_true, is_false, from_true, when_has}
use Rattle.ground.proofs.Walks.{all_set}
use Rattle.event.specs.declared.Event.{Event}
use Rattle.event.specs.Kinds.{diverts}
use Rattle.event.specs.Remote.{asks, of_remote}
use Rattle.event.specs.WellMade.{well_made, call_made}
use Rattle.identifier.specs.Identifier.{after, taken, distinct}
use Rattle.identifier.proofs.After.{after_there}
use Rattle.timed.specs.Timed.{idle, asked, identifiers_of}
use Rattle.remote.specs.declared.Pendings.{Pendings}
use Rattle.remote.specs.Held.{timers_of, mark_ok, remote_holds}
use Rattle.remote.proofs.Sound.{Put, stays, ends, begins, step_puts, step_holds, held_later}
use Rattle.call.specs.declared.Call.{Call}
use Rattle.call.specs.Record.{free_call, requested}
use Rattle.call.specs.Soundness.{sound_call}
use Rattle.call.specs.Act.{act}
use Rattle.call.proofs.Sound.{free_sound}
use Rattle.call.proofs.Kept.{sound_later, act_kept, act_request}
use Rattle.station.specs.declared.Station.{Station}
use Rattle.station.specs.Station.{next_ok, fresh_station}
use Rattle.station.specs.Table.{at, requests_of, open_identifiers, sound, identifier_for, place}
use Rattle.station.specs.Step.{Outcome, next_after, station_with, station_after, effect_at, far_done, far_moved, step, turns, outcomes, run_step, run_on}
use Rattle.station.specs.Demand2.{StepSound, OutcomesSound, RunSound, FreshSound}
use Rattle.station.proofs.Numbers.{Passed}
use Rattle.station.proofs.Stepped.{Stepped, refuses, settles, moves, stepped}
use Rattle.station.proofs.Whole.{Whole, whole, sound_of, record_sound}
use Rattle.station.proofs.Requests.{requests_set, far_set, sound_draws, drawn_there, drawn_passes}
use Rattle.station.proofs.Addressed.{addressed_there}

-- what each element of a list keeps
all_later : {A : Type 0} (p q : A → Bool) → ((x : A) → T (p x) → T (q x)) → (l : List A) → T (all p l) → T (all q l)
unfolding all
all_later p q f [] h = h
all_later p q f (x ∷ xs) h = and_i (q x) (all q xs) (f x (and_l (p x) (all p xs) h)) (all_later p q f xs (and_r (p x) (all p xs) h))

-- an event of a call is as the table of kinds 1 to 15 says
pub call_made_lem : (e : Event) → T (not (of_remote e)) → T (well_made e) → T (call_made e)
unfolding well_made
call_made_lem e n m = rw (is_false (of_remote e) n) at m

module _ (s : Station) (calls : List Call) (e : Event) (p : Passed s calls e) where
  w : Whole s calls
  w = whole s calls p.whole

  -- a later last time
  records_later : T (all (sound_call e.time) calls)
  records_later = all_later (sound_call s.last) (sound_call e.time) (λ c h. sound_later s.last e.time c p.timely h) calls w.records

  -- the next identifier is not 0, which follows no number
  next_kept : T (next_ok (next_after s calls e))
  next_kept =
      let k = identifier_for s calls in
      let n : T (next_ok (after k)) = not_T (eqb (after k) 0) (λ t. after_there k (eqb→eq (after k) 0 t)) in
      when_has (λ (k : ℕ). T (next_ok k)) (diverts e || asks e) (λ _. n) (λ _. w.next)

  -- the open identifiers after what the event does to the station's own requests
  put_apart : (q : Pendings) → Put (identifier_for s calls) s.remote.pending q → T (distinct (requests_of calls ++ identifiers_of (timers_of q)))
  put_apart _ stays = w.apart
  put_apart _ (ends sort l) = far_set s calls sort idle l w.apart (λ t. absurd t)
  put_apart _ (begins sort time l) = far_set s calls sort (asked (identifier_for s calls) time) l w.apart (λ _ t. (sound_draws s calls p.whole).first.free t)

  moves_sound : T (sound (far_done s calls e (far_moved s calls e)).station calls)
  moves_sound =
      sound_of (station_with s calls e (far_moved s calls e).remote) calls
      (record {
        some = w.some;
        few = w.few;
        limit = w.limit;
        next = next_kept;
        far = step_holds s.last s.remote e (identifier_for s calls) p.timely (drawn_there s calls p.whole) w.far;
        records = records_later;
        apart = put_apart (far_moved s calls e).remote.pending (step_puts s.remote e (identifier_for s calls));
      })

  settles_sound : T (not (of_remote e)) → place calls e < length calls
      → T (sound (station_after s calls e) (set calls (place calls e) (effect_at s calls e (place calls e)).call))
  settles_sound n l =
      let i = place calls e in
      let c = at calls i in
      let k = identifier_for s calls in
      let x = (act c e k).call in
      let (a, b) = addressed_there s calls e p in
      let h = record_sound s calls p.whole i l in
      let g : T (sound_call e.time x) = act_kept s.last k c e (drawn_passes s calls p.whole) h p.timely (call_made_lem e n p.made) a b in
      let r : all (sound_call e.time) (set calls i x) ≡ true =
      all_set (sound_call e.time) calls i x (is_true (all (sound_call e.time) calls) records_later) (is_true (sound_call e.time x) g) in
      let m = length-set calls i x in
      let f : T (requested x) → T (taken (open_identifiers s calls) x.identifier) → ⊥ = λ t u.
      (sound_draws s calls p.whole).first.free (rw (act_request s.last k c e h p.timely (call_made_lem e n p.made) a b t).1 at u) in
      sound_of (station_after s calls e) (set calls i x)
      (record {
        some = rw m w.some;
        few = rw m w.few;
        limit = w.limit;
        next = next_kept;
        far = held_later s.last e.time s.remote p.timely w.far;
        records = from_true (all (sound_call e.time) (set calls i x)) r;
        apart = requests_set s calls i x l w.apart f;
      })

sound_after : {s : Station} {calls : List Call} {e : Event} {o : Outcome} → Stepped s calls e o → T (sound s calls) → T (sound o.station o.calls)
sound_after (refuses n q) h = h
sound_after {s} {calls} {e} (settles p r l) h = settles_sound s calls e p r l
sound_after {s} {calls} {e} (moves p l) h = moves_sound s calls e p

pub step_sound : StepSound
step_sound s calls e h = sound_after (stepped s calls e) h

pub outcomes_sound : OutcomesSound
unfolding turns all
outcomes_sound s calls [] h = tt
outcomes_sound s calls (e ∷ rest) h =
    let o = step s calls e in
    let g = step_sound s calls e h in
    and_i (sound o.station o.calls) (all (λ o. sound o.station o.calls) (outcomes o.station o.calls rest)) g
    (outcomes_sound o.station o.calls rest g)

pub run_sound : RunSound
unfolding run_on
run_sound r [] h = h
run_sound r (e ∷ rest) h = run_sound (run_step r e) rest (step_sound r.station r.calls e h)

all_free : (n last : ℕ) → T (all (sound_call last) (replicate n free_call))
unfolding all
all_free zero last = tt
all_free (suc n) last = and_i (sound_call last free_call) (all (sound_call last) (replicate n free_call)) (free_sound last) (all_free n last)

none_asked : (n : ℕ) → requests_of (replicate n free_call) ≡ []
unfolding requests_of
none_asked zero = refl
none_asked (suc n) = none_asked n

pub fresh_sound : FreshSound
unfolding distinct remote_holds identifiers_of
fresh_sound limit enabled allowed n h a b =
    let l = length-replicate n free_call in
    sound_of (fresh_station limit enabled allowed) (replicate n free_call)
    (record {
      some = rw l (le→leb 1 n a);
      few = rw l (le→leb n 64 b);
      limit = search (and_l, and_r);
      next = tt;
      far = and_i (mark_ok enabled) (mark_ok allowed) (search (and_l, and_r)) (search (and_l, and_r));
      records = all_free n 0;
      apart = rw (none_asked n) tt;
    })
