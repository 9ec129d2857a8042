-- Demand 3: "In calls where nothing was tightened the whole answers are equal." Assumes nothing.
use Prim.Native.Nat.{ℕ}
use mathlib.Core.Path.{◌≡◌, refl, sym, ◌∙◌}
use mathlib.Core.Bool.{Bool, true, false, not, ◌&&◌, ◌||◌}
use mathlib.Core.List.{List, Forall₂}
use native.Mathlib.Omega.{arith}
use lib.Dec.{T, eqb, eqb→eq}
use lib.Seq.{get_or-set_other}
use borrow.Author.Tests.{eqb-true, eqb-false}
use Rattle.ground.specs.Choice.{when◌then◌else◌}
use Rattle.ground.proofs.Bools.{and_l, and_r, nor_l, nor_r, not_not, by_cases, from_true, from_false}
use Rattle.ground.proofs.Pointwise.{set_at}
use Rattle.event.specs.declared.Event.{Event}
use Rattle.event.specs.Kinds.{opens}
use Rattle.call.specs.declared.Call.{Call}
use Rattle.call.specs.Record.{free_call}
use Rattle.call.specs.Act.{act}
use Rattle.call.specs.Stricter.{StricterEvent, same, lower, hide, StricterCall}
use Rattle.call.proofs.Stricter.{framed_of, opening_same}
use Rattle.station.specs.declared.Station.{Station}
use Rattle.station.specs.Table.{at, sound, identifier_for, place}
use Rattle.station.specs.Step.{effect_at, step, turn, turns}
use Rattle.station.proofs.Kept.{step_sound}
use Rattle.station.specs.Demand3.{tightened, acts, touched_by, touched_after, WholeAnswers, over, onward, untouched, LivesEqual}
use Rattle.station.proofs.Shared.{place_same, identifier_same, refusal_same, acts_same, far_same}
use Rattle.station.proofs.Demand3.{step_acts, idle_answer_lem, idle_calls, step_rel, sound_stricter}

-- an event that was not tightened is the same
unchanged : {e e' : Event} → StricterEvent e e' → T (not (tightened e e')) → e' ≡ e
unchanged (same e) t = refl
unchanged (lower e option k l m) t = let z : option ≡ e.option = eqb→eq option e.option (search (and_l, not_not)) in absurd (omega arith)
unchanged (hide e k) t = let z : T (eqb 2 1) = search (and_r, not_not) in absurd z

-- an open doesn't read the record that it takes
open_branch : {A : Type 0} (b : Bool) (x y y' : A) → T b → (when b then x else y') ≡ (when b then x else y)
open_branch true x y y' t = refl
open_branch false x y y' t = absurd t

opening : (c c' : Call) (e : Event) (identifier : ℕ) → T (opens e) → act c' e identifier ≡ act c e identifier
unfolding act
opening c c' e identifier t = open_branch (opens e) _ _ _ t

-- untouched: an open, or neither the call before the event nor the event
free_of : (o x y : Bool) {P : Type 0} → (T o → P) → (T (not x) → T (not y) → P) → T (not (not o && (x || y))) → P
free_of true x y f g t = f tt
free_of false x y f g t = g (nor_l x y t) (nor_r x y t)

-- the records of calls that were not touched are the same
abbrev Same : (ℕ → Bool) → List Call → List Call → Type 0
Same touched t t' = (i : ℕ) → T (not (touched i)) → at t' i ≡ at t i

module _ (touched : ℕ → Bool) (s : Station) {t t' : List Call} {e e' : Event} (q : Forall₂ StricterCall t t') (p : StricterEvent e e') (alike : Same touched t t') where
  effect_same : T (not (touched_by touched t e e')) → effect_at s t' e' (place t e) ≡ effect_at s t e (place t e)
  effect_same n =
      free_of (opens e) (touched (place t e)) (tightened e e')
      (λ o. rw (identifier_same q s, opening_same p o) (opening (at t (place t e)) (at t' (place t e)) e (identifier_for s t) o))
      (λ x y. rw (identifier_same q s, unchanged p y, alike (place t e) x)) n

  -- an event that acts
  acting_answer : T (acts s t e) → T (acts s t' e') → T (not (touched_by touched t e e')) → (step s t' e').answer ≡ (step s t e).answer
  acting_answer u u' n = rw (step_acts s t e u, step_acts s t' e' u', place_same q (framed_of p), effect_same n)

  acting_record : T (acts s t e) → T (acts s t' e') → (i : ℕ) → T (not (when eqb i (place t e) then touched_by touched t e e' else touched i))
      → at (step s t' e').calls i ≡ at (step s t e).calls i
  acting_record u u' i n =
      rw (step_acts s t e u, step_acts s t' e' u', place_same q (framed_of p))
      (by_cases (eqb i (place t e))
      (λ y. rw (effect_same (rw y at n), eqb-true i (place t e) y) (set_at (place t e) (effect_at s t e (place t e)).call free_call q))
      (λ o. rw (
        get_or-set_other t' (place t e) i (effect_at s t' e' (place t e)).call free_call (eqb-false i (place t e) o),
        get_or-set_other t (place t e) i (effect_at s t e (place t e)).call free_call (eqb-false i (place t e) o),
      ) (alike i (rw o at n))))

  module _ (a : T (sound s t)) (b : T (sound s t')) where
    same_acts : acts s t' e' ≡ acts s t e
    same_acts = acts_same q s a b p

    -- an event that acts on no record has the same answer in any case
    idle_same : T (not (acts s t e)) → T (not (acts s t' e')) → (step s t' e').answer ≡ (step s t e).answer
    idle_same u u' = idle_answer_lem s t' e' u' ∙ (rw (refusal_same q s a b p, far_same q s p) (sym (idle_answer_lem s t e u)))

    answer_same : T (not (acts s t e && touched_by touched t e e')) → (step s t' e').answer ≡ (step s t e).answer
    answer_same n =
        by_cases (acts s t e)
        (λ y. acting_answer (from_true (acts s t e) y) (from_true (acts s t' e') (same_acts ∙ y)) (rw y at n))
        (λ o. idle_same (from_false (acts s t e) o) (from_false (acts s t' e') (same_acts ∙ o)))

    records_same : Same (touched_after touched (turn s t e) e') (step s t e).calls (step s t' e').calls
    records_same i n =
        by_cases (acts s t e)
        (λ y. acting_record (from_true (acts s t e) y) (from_true (acts s t' e') (same_acts ∙ y)) i (rw y at n))
        (λ o. rw (idle_calls s t e (from_false (acts s t e) o), idle_calls s t' e' (from_false (acts s t' e') (same_acts ∙ o))) (alike i (rw o at n)))

lives_rel : (touched : ℕ → Bool) (s : Station) {t t' : List Call} {es es' : List Event} → T (sound s t) → T (sound s t') → Forall₂ StricterCall t t'
    → Same touched t t' → Forall₂ StricterEvent es es' → WholeAnswers touched (turns s t es) (turns s t' es')
unfolding turns
lives_rel touched s a b q alike Forall₂.nil = over
lives_rel touched s {t} {t'} a b q alike (Forall₂.cons {a = e} {b = e'} {l₁ = es} {l₂ = es'} p ps) =
    let w = step_rel s q p a b in
    let rest : WholeAnswers (touched_after touched (turn s t e) e')
    (turns (step s t e).station (step s t e).calls es) (turns (step s t' e').station (step s t' e').calls es') =
    rw w.station
    (lives_rel (touched_after touched (turn s t e) e') (step s t e).station (step_sound s t e a) (rw w.station at (step_sound s t' e' b)) w.calls
    (records_same touched s q p alike a b) ps)
    in
    onward (answer_same touched s q p alike a b) rest

pub lives_equal : LivesEqual
lives_equal s calls es es' h ps = lives_rel untouched s h h (sound_stricter s calls h) (λ i n. refl) ps
