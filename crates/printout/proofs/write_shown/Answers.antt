use Rattle.std.proofs.Common.{arith}
use Rattle.digits.proofs.Texts.{wrote_then, wrote_at_most}
use Rattle.printout.proofs.Pieces.{column_8, column_16}
use Rattle.printout.proofs.write_shown.Goals as goal

pub returns : goal.returns
returns c =
    let a = c.args in
    let call = wrote_at_most c.write_column.ensures (column_8 255 a.call (omega arith)) in
    let notice = wrote_at_most c.write_column-2.ensures (column_8 255 a.notice (omega arith)) in
    let number = wrote_at_most c.write_column-3.ensures (column_16 0 a.number (omega arith)) in
    wrote_then (wrote_then call notice) number
