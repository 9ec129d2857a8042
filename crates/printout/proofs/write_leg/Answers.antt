use Rattle.std.proofs.Common.{arith}
use borrow.Author.Tests.{ne_eqb}
use Rattle.digits.proofs.Digits.{wrote_8}
use Rattle.printout.proofs.write_leg.Goals as goal

pub returns-then-leg-ne0 : goal.returns-then-leg-ne0
returns-then-leg-ne0 c = rw (ne_eqb c.args.leg 0 c.if-leg-ne0.true) (wrote_8 c.decimal.ensures (omega arith))
