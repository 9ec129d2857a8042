use borrow.Author.Tests.{ne_eqb}
use Rattle.digits.proofs.Texts.{wrote_then}
use Rattle.printout.proofs.write_column.Goals as goal

pub returns-else-n-none : goal.returns-else-n-none
returns-else-n-none c = rw (ne_eqb c.args.n c.args.none c.if-n-none.false) (wrote_then c.put.ensures c.decimal.ensures)
