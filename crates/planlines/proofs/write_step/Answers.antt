use Rattle.std.proofs.Common.{arith}
use Rattle.digits.proofs.Digits.{wrote_16}
use Rattle.digits.proofs.Texts.{wrote_then}
use Rattle.planlines.proofs.write_step.Goals as goal

pub returns : goal.returns
returns c = wrote_then (wrote_then (wrote_then (wrote_16 c.decimal.ensures (omega arith)) c.put.ensures) c.write_reason.ensures) c.put-2.ensures
