-- What the clauses of the functions that `whipsail_lent_step` calls come to: the record that is written stands in the table, and what is told and left is the outcome of the step.
-- Assumes nothing.
use mathlib.Core.Path.{◌≡◌, ap, ◌∙◌}
use Prim.Native.Nat.{◌<◌}
use mathlib.Core.List.{List}
use lib.ListN.{length}
use Rattle.std.specs.Option.{ForSome}
use Rattle.call.specs.declared.Call.{Call}
use Rattle.station.specs.Step.{Outcome}
use Rattle.slice.specs.Table.{settled_at}
use Rattle.pick.specs.declared.Input.{Input}
use Rattle.change.specs.declared.Decision.{Decision}
use Rattle.decision.specs.Decision.{decision_on, outcome_by}
use Rattle.decision.proofs.Laws.{decision_within, decision_steps}
use Rattle.whipsail.specs.Lent.{outcome, reply_of, table_after}

-- the decision on the table that is lent
abbrev pub on_table : List Call → Input → Decision
on_table ys input = decision_on input.station ys input.event

module _ (ys : List Call) (input : Input) (t : Decision) (e₃ : t ≡ on_table ys input) where
  pub within : ForSome t.change (λ (place, c). place < length ys)
  within = rw e₃ (decision_within input.station ys input.event)

  stepped : outcome_by ys t ≡ outcome ys input
  stepped = ap (outcome_by ys) e₃ ∙ decision_steps input.station ys input.event

  pub said : (zs : List Call) → zs ≡ settled_at t.change ys → (t.reply ≡ reply_of ys input) × (zs ≡ table_after ys input)
  said zs e₄ = (ap (λ (o : Outcome). record { answer = o.answer; station = o.station }) stepped, e₄ ∙ ap (λ (o : Outcome). o.calls) stepped)
