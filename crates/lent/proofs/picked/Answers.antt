use Rattle.lent.proofs.Laws.{picked_wanted, picked_else}
use Rattle.lent.proofs.picked.Goals as goal

pub returns-then-wants_column : goal.returns-then-wants_column
returns-then-wants_column c =
    let a = c.args in
    picked_wanted a.input a.v a.n a.table.now c.wants_column.result c.wants_column.ensures (rw c.if-wants_column.true tt) c.column-held.result c.column-held.ensures c.from_column.result c.from_column.ensures

pub returns : goal.returns
returns c =
    let a = c.args in
    picked_else a.input a.v a.n a.table.now c.wants_column.result c.wants_column.ensures (rw c.if-wants_column.false tt) c.as_it_stands.result c.as_it_stands.ensures
