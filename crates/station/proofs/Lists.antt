-- A list of events: each acts on what those before it left. Assumes nothing.
use Prim.Native.Nat.{suc, ◌+◌}
use native.Mathlib.Omega.{arith}
use mathlib.Core.Path.{◌≡◌, refl, ap, ◌∙◌}
use mathlib.Core.Bool.{true, false}
use mathlib.Core.List.{List, [], ◌∷◌, ◌++◌}
use lib.Dec.{eqb}
use lib.ListN.{length, get_or, get_or-map}
use Rattle.ground.specs.Choice.{when◌then◌else◌}
use Rattle.event.specs.declared.Event.{Event}
use Rattle.station.specs.Step.{Outcome, step, TurnTaken, turn, turns, Ran, counted, run_step, run_on}
use Rattle.station.specs.Demand2.{TurnsEach, OutcomesEach, OutcomesLength, RunCounts}

-- whatever was counted before
each : (r : Ran) (before : List Event) (e : Event) (behind : List Event) (d : TurnTaken)
    → get_or (turns r.station r.calls (before ++ (e ∷ behind))) (length before) d ≡ turn (run_on r before).station (run_on r before).calls e
unfolding turns run_on
each r [] e behind d = refl
each r (x ∷ before) e behind d = each (run_step r x) before e behind d

pub turns_each : TurnsEach
turns_each s calls before e behind d = each (record { done = 0; refused = 0; station = s; calls = calls }) before e behind d

pub outcomes_each : OutcomesEach
outcomes_each s calls before e behind d =
    let none : TurnTaken = record { station = s; calls = calls; event = e; outcome = d } in
    get_or-map (λ (t : TurnTaken). t.outcome) (turns s calls (before ++ (e ∷ behind))) (length before) none
    ∙ ap (λ (t : TurnTaken). t.outcome) (turns_each s calls before e behind none)

pub outcomes_length : OutcomesLength
unfolding turns
outcomes_length s calls [] = refl
outcomes_length s calls (e ∷ rest) = ap suc (outcomes_length (step s calls e).station (step s calls e).calls rest)

counted_one : (r : Ran) (o : Outcome) → (counted r o).done + (counted r o).refused ≡ r.done + r.refused + 1
counted_one r o =
    elim (eqb o.answer.code 0) as (λ b. (when b then r.done + 1 else r.done) + (when b then r.refused else r.refused + 1) ≡ r.done + r.refused + 1)
    [ true ↦ omega arith | false ↦ omega arith ]

counts : (r : Ran) (events : List Event) → (run_on r events).done + (run_on r events).refused ≡ r.done + r.refused + length events
unfolding run_on
counts r [] = omega arith
counts r (e ∷ rest) =
    let a = counts (run_step r e) rest in
    let b = counted_one r (step r.station r.calls e) in
    omega arith

pub run_counts : RunCounts
run_counts s calls events = let a = counts (record { done = 0; refused = 0; station = s; calls = calls }) events in omega arith
