-- Kinds 16 to 31 over the whole station. Assumes nothing.
use Prim.Native.Nat.{ℕ, ◌≤◌}
use native.Mathlib.Omega.{arith}
use mathlib.Core.Path.{◌≡◌, refl, ap, ◌∙◌}
use mathlib.Core.Bool.{true, false, not, ◌&&◌}
use mathlib.Core.List.{List, [], ◌∷◌}
use lib.Dec.{T, leb, eqb, eqb-suc-zero, leb→le, T_not}
use borrow.Author.Tests.{le-leb, lt-ltb, le-ltb, leb-true}
use lib.ListN.{length}
use Rattle.ground.specs.Choice.{when◌then◌else◌}
use Rattle.ground.proofs.Bools.{and_l, and_r, is_true, is_false, from_true, by_cases, when_has}
use Rattle.ground.proofs.Walks.{and_false}
use Rattle.event.specs.declared.Event.{Event}
use Rattle.event.specs.Kinds.{clock}
use Rattle.event.specs.Remote.{receives, of_remote, remote_fields}
use Rattle.event.specs.WellMade.{well_made}
use Rattle.event.proofs.Groups.{of_no_call}
use Rattle.call.specs.declared.Call.{Call}
use Rattle.call.specs.State.{basic_forbids, state_forbids}
use Rattle.remote.specs.declared.Remote.{Remote}
use Rattle.remote.specs.declared.Moved.{Moved}
use Rattle.remote.specs.Held.{kept_for, first_due}
use Rattle.remote.specs.Rules.{remote_refusal, accepts, agreed, declined, received, lapse}
use Rattle.remote.specs.Laws.{left_by}
use Rattle.remote.proofs.Roles.{step_clocks, step_foreign, step_invoked}
use Rattle.remote.proofs.Stored.{left_by_one}
use Rattle.station.specs.declared.Station.{Station}
use Rattle.station.specs.Table.{sound, identifier_for, place}
use Rattle.station.specs.Refusals.{refusal_on_sound, refusal}
use Rattle.station.specs.Step.{Outcome, far_moved, far_done, on_call, step, turns, run_step, run_on}
use Rattle.station.specs.Far.{FarLeaves, Leaves, NearLeaves, FarSteps, FarNumbers, FarDoes, FarSaid, FarSays, FarEchoed, last_left, KeepsLast}
use Rattle.station.proofs.Numbers.{Passed}
use Rattle.station.proofs.Stepped.{Stepped, refuses, settles, moves, stepped}
use Rattle.station.proofs.Demand1.{code_refusal}

leaves_calls : {s : Station} {calls : List Call} {e : Event} {o : Outcome} → Stepped s calls e o → T (of_remote e) → o.calls ≡ calls
leaves_calls (refuses n q) t = refl
leaves_calls {e = e} (settles p r l) t = absurd (T_not (of_remote e) r t)
leaves_calls (moves p l) t = refl

pub far_leaves : FarLeaves
far_leaves s calls e t = leaves_calls (stepped s calls e) t

steps_of : {s : Station} {calls : List Call} {e : Event} {o : Outcome} → Stepped s calls e o
    → o.station.remote ≡ (when eqb o.answer.code 0 && not (on_call calls e) then (far_moved s calls e).remote else s.remote)
steps_of (refuses n q) = rw (eqb-suc-zero n)
steps_of {s} {calls} {e} (settles p r l) =
    let y : on_call calls e ≡ true = simp (is_false (of_remote e) r, lt-ltb (place calls e) (length calls) l) in
    rw y
steps_of {s} {calls} {e} (moves p l) = rw (is_false (on_call calls e) l)

pub far_steps : FarSteps
far_steps s calls e = steps_of (stepped s calls e)

-- of the tests of a call's event, none is for these kinds
pub far_numbers : FarNumbers
unfolding refusal refusal_on_sound well_made basic_forbids state_forbids remote_refusal
far_numbers s calls e h l t f =
    let a : 16 ≤ e.kind = search (and_l, leb→le) in
    let w = of_no_call e a in
    code_refusal s calls e
    ∙ simp (
      is_true (sound s calls) h,
      le-ltb e.time s.last l,
      is_true (of_remote e) t,
      is_true (remote_fields e) f,
      w.opens,
      w.incoming,
      w.outgoing,
      w.diverts,
      w.answers,
      w.ends,
    )

-- a done event of these kinds: what is known of it
pub record Moves (s : Station) (calls : List Call) (e : Event) (o : Outcome) : Type 0 where
  pub passed : Passed s calls e
  pub fields : T (remote_fields e)
  pub leaves : o ≡ far_done s calls e (far_moved s calls e)

far_made : (e : Event) → T (of_remote e) → T (well_made e) → T (remote_fields e)
unfolding well_made
far_made e t m = rw (is_true (of_remote e) t) at m

pub moved : {s : Station} {calls : List Call} {e : Event} {o : Outcome} → Stepped s calls e o → T (of_remote e) → o.answer.code ≡ 0 → Moves s calls e o
moved (refuses n q) t z = absurd (omega (arith, z))
moved {e = e} (settles p r l) t z = absurd (T_not (of_remote e) r t)
moved {e = e} (moves p l) t z = record { passed = p; fields = far_made e t p.made; leaves = refl }

pub far_does : FarDoes
far_does s calls e t z = (moved (stepped s calls e) t z).leaves

said_of : {s : Station} {calls : List Call} {e : Event} {o : Outcome} → Stepped s calls e o → T (of_remote e) → FarSaid o.answer
said_of (refuses n q) t = record { call = refl; second = refl; third = refl; notice = refl; number = refl; counter = refl }
said_of {e = e} (settles p r l) t = absurd (T_not (of_remote e) r t)
said_of (moves p l) t = record { call = refl; second = refl; third = refl; notice = refl; number = refl; counter = refl }

pub far_says : FarSays
far_says s calls e t = said_of (stepped s calls e) t

-- a received invoke is answered with its identifier, accepted or not
abbrev Echoes : Event → Moved → Type 0
Echoes e m = (m.identifier ≡ e.identifier) × (m.message.identifier ≡ e.identifier)

received_echoes : (r : Remote) (e : Event) → Echoes e (received r e)
received_echoes r e = when_has (Echoes e) (accepts r e) {x = agreed r e} {y = declined r e} (λ _. (refl, refl)) (λ _. (refl, refl))

pub far_echoed : FarEchoed
far_echoed s calls e t z =
    let l : 20 ≤ e.kind = search (and_l, leb→le) in
    let h : e.kind ≤ 23 = search (and_r, leb→le) in
    let m = moved (stepped s calls e) (simp (le-leb 16 e.kind (omega arith), le-leb e.kind 31 (omega arith)) tt) z in
    rw (m.leaves, step_invoked s.remote e (identifier_for s calls) l h m.fields) (received_echoes s.remote e)

-- what one event leaves of what is kept
left_of : (type : ℕ) → 1 ≤ type → type ≤ 3 → {s : Station} {calls : List Call} {e : Event} {o : Outcome} → Stepped s calls e o
    → kept_for type o.station.remote.kept ≡ left_by type (kept_for type s.remote.kept) e o.answer.sent.first.letter
left_of type low high {e = e} (refuses n q) = rw (and_false (receives e))
left_of type low high {e = e} (settles p r l) =
    let n : receives e ≡ false = by_cases (leb 20 e.kind) (λ a. by_cases (leb e.kind 23)
    (λ b. absurd (T_not (of_remote e) r (simp (le-leb 16 e.kind (omega (arith, leb-true 20 e.kind a)), le-leb e.kind 31 (omega (arith, leb-true e.kind 23 b))) tt))) (λ b. simp (b, and_false))) (λ a. simp a) in
    rw n
left_of type low high {s} {calls} {e} (moves p l) = left_by_one type low high s.remote e (identifier_for s calls)

pub keeps_last : KeepsLast
unfolding run_on turns last_left
keeps_last type low high r [] = refl
keeps_last type low high r (e ∷ rest) =
    let o = step r.station r.calls e in
    keeps_last type low high (run_step r e) rest
    ∙ ap (λ n. last_left type n (turns o.station o.calls rest)) (left_of type low high (stepped r.station r.calls e))

-- what a clock event ends is a pending request
lapse_leaves : (time : ℕ) (r : Remote) → Leaves r (lapse time r).remote
unfolding lapse
lapse_leaves time r =
    by_cases (eqb (first_due time r.pending) 4)
    (λ y. rw y (record { kept = refl; enabled = refl; allowed = refl }))
    (λ n. rw n (record { kept = refl; enabled = refl; allowed = refl }))

near_of : {s : Station} {calls : List Call} {e : Event} {o : Outcome} → Stepped s calls e o → T (not (of_remote e))
    → Leaves s.remote o.station.remote × (T (not (clock e)) → o.station.remote ≡ s.remote)
near_of (refuses n q) f = (record { kept = refl; enabled = refl; allowed = refl }, λ _. refl)
near_of (settles p r l) f = (record { kept = refl; enabled = refl; allowed = refl }, λ _. refl)
near_of {s} {calls} {e} (moves p l) f =
    by_cases (clock e)
    (λ y.
    rw (step_clocks s.remote e (identifier_for s calls) (from_true (clock e) y), y)
    (lapse_leaves e.time s.remote, λ n. absurd n))
    (λ n.
    let x = is_false (of_remote e) f in
    rw (step_foreign s.remote e (identifier_for s calls) n (rw x))
    (record { kept = refl; enabled = refl; allowed = refl }, λ _. refl))

pub near_leaves : NearLeaves
near_leaves s calls e f = near_of (stepped s calls e) f
