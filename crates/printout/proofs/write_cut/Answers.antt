use Rattle.std.proofs.Common.{rules}
use Rattle.digits.proofs.Texts.{wrote_then}
use Rattle.printout.proofs.write_cut.Goals as goal

pub returns : goal.returns
returns c = let w = wrote_then (wrote_then c.put_bytes.ensures c.decimal.ensures) c.put.ensures in search rules
