use Rattle.std.proofs.Common.{arith}
use Rattle.digits.proofs.Digits.{wrote_8}
use Rattle.digits.proofs.Texts.{wrote_then}
use Rattle.printout.proofs.write_start.Goals as goal

pub returns : goal.returns
returns c = wrote_then (wrote_then c.decimal.ensures c.put.ensures) (wrote_8 c.decimal-2.ensures (omega arith))
