-- Each turn copies one record's identifier.
use Rattle.std.proofs.Common.{◌≡◌, arith}
use Rattle.std.proofs.lemmas.List.{get_or_default}
use Rattle.call.specs.Record.{free_call}
use Rattle.draw.proofs.Column.{column_next}
use Rattle.copy.proofs.column.Goals as goal

pub loop-i-preserved : goal.loop-i-preserved
loop-i-preserved c =
    let l = c.args.table.now in
    let i = c.loop-i.i in
    rw (c.loop-i.invariant, c.held_by.ensures, get_or_default l i _ free_call (omega arith)) (column_next l i (omega arith) (omega arith))

pub returns : goal.returns
returns c = let e : c.loop-i.i ≡ c.args.n = omega arith in rw e at c.loop-i.invariant
