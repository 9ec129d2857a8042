-- Demand 3: a stricter run shows no more and is otherwise the same. Assumes nothing.
use Prim.Native.Nat.{ℕ}
use mathlib.Core.Path.{◌≡◌, refl, ◌∙◌}
use mathlib.Core.Bool.{Bool, true, false, not, ◌&&◌}
use mathlib.Core.List
use mathlib.Core.List.{List, [], ◌∷◌, Forall₂}
use lib.Dec.{T, eqb}
use Rattle.ground.specs.Choice.{when◌then◌else◌}
use Rattle.ground.specs.Lists.{all}
use Rattle.ground.proofs.Bools.{and_l, and_r, by_cases, from_true, from_false, when_has}
use Rattle.ground.proofs.Pointwise.{set_rel}
use Rattle.event.specs.declared.Event.{Event}
use Rattle.event.specs.WellMade.{well_made, call_made}
use Rattle.event.specs.Remote.{of_remote}
use Rattle.notice.specs.Stricter.{agreed}
use Rattle.call.specs.declared.Call.{Call}
use Rattle.call.specs.declared.Effect.{Effect}
use Rattle.call.specs.Soundness.{sound_call}
use Rattle.call.specs.Stricter.{StricterEvent, StricterCall, StricterEffect}
use Rattle.call.proofs.Stricter.{when_keeps, framed_of, act_rel}
use Rattle.call.proofs.AsStrict.{call_stricter}
use Rattle.station.specs.declared.Station.{Station}
use Rattle.station.specs.declared.Answer.{Answer}
use Rattle.station.specs.Station.{empty_answer}
use Rattle.station.specs.Table.{sound, identifier_for, place}
use Rattle.station.specs.Refusals.{not_sound, early, refusal_on_sound, refusal}
use Rattle.station.specs.Step.{Outcome, refused, effect_at, done_at, on_call, far_answer, far_moved, far_done, done, by_number, step, turns, outcomes}
use Rattle.station.proofs.Kept.{step_sound, call_made_lem}
use Rattle.station.specs.Demand3.{StricterAnswer, SameStates, StricterOutcome, RunsStricter, acts}
use Rattle.station.proofs.Shared.{same_states, at_stricter, place_same, identifier_same, station_same, with_same, far_same, refusal_same, acts_same}

-- An event that acts on a record, and one that doesn't.
inner : {A : Type 0} (a b : Bool) (x y z : A) → T (a && b) → (when a then when b then x else y else z) ≡ x
inner true true x y z t = refl
inner true false x y z t = absurd t
inner false b x y z t = absurd t

outer : {A : Type 0} (a b : Bool) (x y z : A) → T (not (a && b)) → (when a then when b then x else y else z) ≡ (when a then y else z)
outer true true x y z t = absurd t
outer true false x y z t = refl
outer false b x y z t = refl

module _ (s : Station) (calls : List Call) (e : Event) where
  pub step_acts : T (acts s calls e) → step s calls e ≡ done_at s calls e (place calls e) (effect_at s calls e (place calls e))
  unfolding step by_number done
  step_acts t = inner (eqb (refusal s calls e) 0) (on_call calls e) _ _ _ t

  pub step_idle : T (not (acts s calls e)) → step s calls e ≡ (when eqb (refusal s calls e) 0 then far_done s calls e (far_moved s calls e) else refused s calls (refusal s calls e))
  unfolding step by_number done
  step_idle t = outer (eqb (refusal s calls e) 0) (on_call calls e) _ _ _ t

  -- its answer: what the station's own part says, or the number
  abbrev pub idle_answer : Answer
  idle_answer = when eqb (refusal s calls e) 0 then far_answer (far_moved s calls e) else empty_answer (refusal s calls e)

  pub idle_answer_lem : T (not (acts s calls e)) → (step s calls e).answer ≡ idle_answer
  idle_answer_lem t = rw (step_idle t) (by_cases (eqb (refusal s calls e) 0) (λ y. rw y) (λ n. rw n))

  pub idle_calls : T (not (acts s calls e)) → (step s calls e).calls ≡ calls
  idle_calls t = rw (step_idle t) (when_has (λ (o : Outcome). o.calls ≡ calls) (eqb (refusal s calls e) 0) (λ y. refl) (λ n. refl))

-- what is done is well made
past_three : (a b c : Bool) (n : ℕ) → T (eqb (when a then 1 else when b then 2 else when not c then 3 else n) 0) → T c
past_three true b c n t = absurd t
past_three false true c n t = absurd t
past_three false false true n t = tt
past_three false false false n t = absurd t

done_made : (s : Station) (calls : List Call) (e : Event) → T (eqb (refusal s calls e) 0) → T (well_made e)
unfolding refusal refusal_on_sound
done_made s calls e t = past_three (not_sound s calls) (early s e) (well_made e) _ t

-- one event
pub record StricterStep (o o' : Outcome) : Type 0 where
  pub answer : StricterAnswer o.answer o'.answer
  pub station : o'.station ≡ o.station
  pub calls : Forall₂ StricterCall o.calls o'.calls

answer_alike : (a : Answer) → StricterAnswer a a
answer_alike a = record { code = refl; call = refl; sent = refl; identifier = refl; counter = refl; notice = agreed; number = agreed }

module _ (s : Station) {t t' : List Call} {e e' : Event} (q : Forall₂ StricterCall t t') (p : StricterEvent e e') where
  done_at_rel : (i : ℕ) {x x' : Effect} → StricterEffect x x' → StricterStep (done_at s t e i x) (done_at s t' e' i x')
  done_at_rel i z = record {
    answer = record { code = refl; call = refl; sent = z.sent; identifier = z.identifier; counter = z.counter; notice = z.notice; number = z.number };
    station = station_same q s (framed_of p);
    calls = set_rel i q z.call;
  }

  effect_rel : (i : ℕ) → T (call_made e) → StricterEffect (effect_at s t e i) (effect_at s t' e' i)
  effect_rel i made = rw (identifier_same q s) (act_rel (identifier_for s t) (at_stricter q i) p made)

  idle_rel : (code : ℕ) → StricterStep (when eqb code 0 then far_done s t e (far_moved s t e) else refused s t code) (when eqb code 0 then far_done s t' e' (far_moved s t' e') else refused s t' code)
  idle_rel code =
      rw (far_same q s p)
      (when_keeps StricterStep (eqb code 0) {x = far_done s t e (far_moved s t e)} {x' = far_done s t' e' (far_moved s t e)}
      (λ z. record { answer = answer_alike _; station = with_same q s (far_moved s t e).remote (framed_of p); calls = q })
      (record { answer = answer_alike _; station = refl; calls = q }))

  -- the two runs act on a record at the same events, and on the same
  acting : T (acts s t e) → T (acts s t' e') → StricterStep (step s t e) (step s t' e')
  acting u u' =
      let near : T (not (of_remote e)) = search (and_l, and_r) in
      let made : T (call_made e) = call_made_lem e near (done_made s t e (search and_l)) in
      rw (step_acts s t e u, step_acts s t' e' u', place_same q (framed_of p)) (done_at_rel (place t e) (effect_rel (place t e) made))

  idling : T (sound s t) → T (sound s t') → T (not (acts s t e)) → T (not (acts s t' e')) → StricterStep (step s t e) (step s t' e')
  idling a b u u' = rw (step_idle s t e u, step_idle s t' e' u', refusal_same q s a b p) (idle_rel (refusal s t e))

  pub step_rel : T (sound s t) → T (sound s t') → StricterStep (step s t e) (step s t' e')
  step_rel a b =
      let alike = acts_same q s a b p in
      by_cases (acts s t e) (λ y. acting (from_true (acts s t e) y) (from_true (acts s t' e') (alike ∙ y)))
      (λ n. idling a b (from_false (acts s t e) n) (from_false (acts s t' e') (alike ∙ n)))

table_states : {t t' : List Call} → Forall₂ StricterCall t t' → Forall₂ SameStates t t'
table_states List.Forall₂.nil = List.Forall₂.nil
table_states (List.Forall₂.cons r rs) = List.Forall₂.cons (same_states r) (table_states rs)

-- a sound table is as strict as itself
table_stricter : (last : ℕ) (t : List Call) → T (all (sound_call last) t) → Forall₂ StricterCall t t
unfolding all
table_stricter last [] h = List.Forall₂.nil
table_stricter last (c ∷ t) h = List.Forall₂.cons (call_stricter last c (search and_l)) (table_stricter last t (search and_r))

pub sound_stricter : (s : Station) (t : List Call) → T (sound s t) → Forall₂ StricterCall t t
unfolding sound
sound_stricter s t h = table_stricter s.last t (search (and_l, and_r))

runs_rel : (s : Station) {t t' : List Call} {es es' : List Event} → T (sound s t) → T (sound s t') → Forall₂ StricterCall t t'
    → Forall₂ StricterEvent es es' → Forall₂ StricterOutcome (outcomes s t es) (outcomes s t' es')
unfolding turns
runs_rel s a b q List.Forall₂.nil = List.Forall₂.nil
runs_rel s {t} {t'} a b q (List.Forall₂.cons {a = e} {b = e'} {l₁ = es} {l₂ = es'} p ps) =
    let w = step_rel s q p a b in
    let rest : Forall₂ StricterOutcome (outcomes (step s t e).station (step s t e).calls es) (outcomes (step s t' e').station (step s t' e').calls es') =
    rw w.station (runs_rel (step s t e).station (step_sound s t e a) (rw w.station at (step_sound s t' e' b)) w.calls ps)
    in
    List.Forall₂.cons (record { answer = w.answer; station = w.station; calls = table_states w.calls }) rest

pub runs_stricter : RunsStricter
runs_stricter s calls es es' h ps = runs_rel s h h (sound_stricter s calls h) ps
