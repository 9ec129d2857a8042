use Rattle.runs.proofs.Playing.{Playing}
use Rattle.runs.proofs.run_tested.Given as goal

abbrev pub invariant-loop-k : goal.invariant-loop-k
invariant-loop-k l = Playing l.initial.driver l.events l.driver l.done l.refused l.k
