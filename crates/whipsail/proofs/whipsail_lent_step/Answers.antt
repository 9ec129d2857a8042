-- The record that is written stands in the table, and what is told and left is the outcome of the step. Assumes nothing.
use Rattle.std.proofs.Common.{◌∙◌}
use Rattle.whipsail.proofs.Said.{within, said}
use Rattle.whipsail.proofs.whipsail_lent_step.Goals as goal

pub settle-requires : goal.settle-requires
settle-requires c = rw c.change_of.ensures (within c.args.table.now c.args.input c.looked-out.result c.looked-out.ensures)

pub returns : goal.returns
returns c =
    let s = said c.args.table.now c.args.input c.looked-out.result c.looked-out.ensures c.settle.new.table (rw c.change_of.ensures at c.settle.ensures) in
    (c.reply_of.ensures ∙ s.0, s.1)
