use Rattle.std.proofs.Common.{arith}
use Rattle.digits.proofs.Texts.{wrote_then, wrote_at_most}
use Rattle.printout.proofs.Pieces.{column_8, column_32}
use Rattle.printout.proofs.write_end.Goals as goal

pub returns : goal.returns
returns c =
    let a = c.args in
    let identifier = wrote_at_most c.write_column.ensures (column_32 65536 a.identifier (omega arith)) in
    let counter = wrote_at_most c.write_column-2.ensures (column_8 0 a.counter (omega arith)) in
    wrote_then (wrote_then (wrote_then (wrote_then identifier counter) c.put.ensures) c.write_messages.ensures) c.put-2.ensures
