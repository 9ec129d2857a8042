use Rattle.rehearsal.specs.Plan.{panels_of}
use Rattle.planlines.proofs.Ways.{Underway}
use Rattle.planlines.proofs.write_way.Given as goal

abbrev pub invariant-loop : goal.invariant-loop
invariant-loop l = Underway (panels_of l.plan) l.start l.forwards l.initial.text l.text l.panel l.counter
