use mathlib.Core.Path.{◌≡◌}
use lib.ListN.{take}
use Rattle.expiry.specs.Expiry.{soonest_of}
use Rattle.expiry.proofs.soonest.Given as goal

abbrev pub invariant-loop-due : goal.invariant-loop-due
invariant-loop-due l = l.least ≡ soonest_of (take l.due-index l.dues)
