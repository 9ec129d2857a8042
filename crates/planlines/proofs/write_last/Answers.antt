use Rattle.std.proofs.Common.{arith}
use Rattle.digits.proofs.Digits.{wrote_8, wrote_16}
use Rattle.digits.proofs.Texts.{wrote_then}
use Rattle.planlines.proofs.write_last.Goals as goal

pub returns : goal.returns
returns c = wrote_then (wrote_then (wrote_then (wrote_8 c.decimal.ensures (omega arith)) c.put.ensures) (wrote_16 c.decimal-2.ensures (omega arith))) c.put-2.ensures
