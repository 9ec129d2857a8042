-- Document 02, Three: no identifier of ours is 0, and a result, error or reject that bears 0 is 3. Assumes nothing.
use Prim.Native.Nat.{ℕ}
use mathlib.Core.Path.{◌≡◌, sym, ◌∙◌}
use mathlib.Core.Bool.{◌||◌}
use mathlib.Core.List.{List}
use borrow.Author.Tests.{le-ltb, ltb-true, ltb-false}
use lib.Dec.{T, eqb, ltb, T_not}
use lib.ListN.{length, get_or-eq_default}
use Rattle.ground.proofs.Bools.{eq→eqb, is_true, is_false, from_true, from_false, or_right, by_cases}
use Rattle.event.specs.declared.Event.{Event}
use Rattle.event.specs.Kinds.{diverts}
use Rattle.event.specs.Remote.{asks}
use Rattle.event.specs.WellMade.{well_made}
use Rattle.event.proofs.Identifiers.{zero_ill_made}
use Rattle.call.specs.declared.Call.{Call}
use Rattle.call.specs.Record.{free_call}
use Rattle.call.proofs.Identifiers.{request_there, invoke_echoes}
use Rattle.timed.proofs.Laws.{waiting_there}
use Rattle.remote.specs.Held.{pending_of}
use Rattle.remote.proofs.Sound.{held_each}
use Rattle.station.specs.declared.Station.{Station}
use Rattle.station.specs.Table.{at, identifier_for, sound}
use Rattle.station.specs.Refusals.{refusal, refusal_on_sound}
use Rattle.station.specs.Step.{step, run}
use Rattle.station.specs.Demand1.{code_of, ZeroIsThree}
use Rattle.station.specs.Demand2.{Open, FarOpen, RequestsThere, RunThere, DivertThere, NextThere, InvokeEchoed}
use Rattle.station.proofs.Demand1.{code_refusal, done_passed}
use Rattle.station.proofs.Whole.{whole, record_sound}
use Rattle.station.proofs.Requests.{drawn_there}
use Rattle.station.proofs.Kept.{step_sound, run_sound}
use Rattle.station.proofs.Named.{named_acts}
use Rattle.station.proofs.Asking.{divert_asks}
use Rattle.station.proofs.FarRequests.{far_asks}

pub invoke_echoed : InvokeEchoed
invoke_echoed s calls e q z =
    let a = named_acts s calls e (rw q tt) (rw q) z in
    let x = invoke_echoes (at calls e.call) e (identifier_for s calls) q in
    rw a.leaves (x.answer, x.message)

pub zero_is_three : ZeroIsThree
unfolding refusal refusal_on_sound
zero_is_three s calls e h l t z =
    code_refusal s calls e ∙ rw (is_true (sound s calls) h, le-ltb e.time s.last l, is_false (well_made e) (zero_ill_made e t z))

-- past the table's end stands a free record
near_there : (s : Station) (calls : List Call) → T (sound s calls) → (i : ℕ) → Open calls i 0 → ⊥
near_there s calls h i o =
    by_cases (ltb i (length calls))
    (λ y. request_there s.last (at calls i) (record_sound s calls h i (ltb-true i (length calls) y)) o.asked o.bears)
    (λ n. absurd (rw (get_or-eq_default calls free_call (ltb-false i (length calls) n)) at o.asked))

far_there : (s : Station) (calls : List Call) → T (sound s calls) → (sort : ℕ) → FarOpen s sort 0 → ⊥
far_there s calls h sort o =
    waiting_there s.last (pending_of sort s.remote.pending) (held_each s.last s.remote (whole s calls h).far sort o.small) o.asked o.bears

pub requests_there : RequestsThere
requests_there s calls h = record { near = near_there s calls h; far = far_there s calls h }

pub run_there : RunThere
run_there s calls events h =
    requests_there (run s calls events).station (run s calls events).calls (run_sound (record { done = 0; refused = 0; station = s; calls = calls }) events h)

-- the answer to a done request names the identifier drawn
names_drawn : (s : Station) (calls : List Call) (e : Event) → T (diverts e || asks e) → code_of s calls e ≡ 0 → (step s calls e).answer.identifier ≡ identifier_for s calls
names_drawn s calls e t z =
    by_cases (diverts e)
    (λ y. (divert_asks s calls e (from_true (diverts e) y) z).identifier)
    (λ n. (far_asks s calls e (or_right (diverts e) (asks e) (T_not (diverts e) (from_false (diverts e) n)) t) z).identifier)

pub divert_there : DivertThere
divert_there s calls e t z q = drawn_there s calls (done_passed s calls e z).whole (sym (names_drawn s calls e t z) ∙ q)

pub next_there : NextThere
next_there s calls e z q =
    let o = step s calls e in
    T_not (eqb o.station.next 0) (whole o.station o.calls (step_sound s calls e (done_passed s calls e z).whole)).next (eq→eqb o.station.next 0 q)
