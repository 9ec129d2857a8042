use Rattle.std.proofs.Common.{arith}
use Rattle.digits.proofs.Digits.{wrote_8}
use Rattle.digits.proofs.Texts.{wrote_then}
use Rattle.planlines.proofs.write_outcome.Goals as goal

pub returns : goal.returns
returns c =
    let counter = wrote_8 c.decimal.ensures (omega arith) in
    wrote_then (wrote_then (wrote_then (wrote_then c.write_last.ensures c.write_ending.ensures) c.put.ensures) counter) c.put-2.ensures
