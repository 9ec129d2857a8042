use borrow.Author.Tests.{ne_eqb}
use Rattle.digits.proofs.Texts.{wrote_then}
use Rattle.printout.proofs.write_message.Goals as goal

pub returns-then-m-ne0 : goal.returns-then-m-ne0
returns-then-m-ne0 c = rw (ne_eqb c.args.m.letter 0 c.if-m-ne0.true) (wrote_then c.put.ensures c.write_leg.ensures)
