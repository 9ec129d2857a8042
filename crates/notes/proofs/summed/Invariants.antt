use mathlib.Core.Path.{◌≡◌}
use Rattle.draw.specs.Column.{over, frees}
use Rattle.expiry.specs.Expiry.{soonest_of}
use Rattle.notes.proofs.Kept.{Kept, notes}
use Rattle.notes.proofs.summed.Given as goal

abbrev pub invariant-loop-i : goal.invariant-loop-i
invariant-loop-i l = record { kept : Kept (over l.i l.calls frees) (notes l.free l.soon l.dues l.held); least : l.soon ≡ soonest_of l.dues }
