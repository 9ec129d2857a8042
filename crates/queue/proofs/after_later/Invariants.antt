use Rattle.std.proofs.Common.{◌≡◌}
use Rattle.std.proofs.Math.ListN.{take}
use Rattle.waits.specs.Waits.{after_all}
use Rattle.queue.proofs.after_later.Given as goal

abbrev pub invariant-loop-d : goal.invariant-loop-d
invariant-loop-d l = record { heard : l.history ≡ after_all l.initial.history (take l.d-index l.d-items) }
