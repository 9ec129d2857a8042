use Rattle.planreading.proofs.Folds.{Midway}
use Rattle.planreading.proofs.read_piece.Given as goal

abbrev pub invariant-loop-byte : goal.invariant-loop-byte
invariant-loop-byte l = Midway l.fn.r l.bytes l.initial.plan l.next l.plan l.byte-index
