use mathlib.Core.Path.{refl}
use native.Mathlib.Omega.{arith}
use Rattle.expiry.specs.Expiry.{soonest_of}
use Rattle.expiry.proofs.Bound.{soonest_on}
use Rattle.expiry.proofs.soonest.Goals as goal

pub loop-due-init : goal.loop-due-init
unfolding soonest_of
loop-due-init c = refl

pub loop-due-preserved : goal.loop-due-preserved
loop-due-preserved c = omega (arith, c.loop-due.invariant, soonest_on c.args.dues.now c.loop-due.due-index 0 (omega arith))
