use Rattle.panel.proofs.Playing.{Playing}
use Rattle.panel.proofs.play.Given as goal

abbrev pub invariant-loop-k : goal.invariant-loop-k
invariant-loop-k l = Playing l.initial.driver l.position l.bytes l.initial.out l.n l.driver l.out l.at l.k
