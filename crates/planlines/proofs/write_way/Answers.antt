use Rattle.std.proofs.Common.{arith}
use Rattle.planlines.proofs.Ways.{underway_start, underway_next, underway_end}
use Rattle.planlines.proofs.write_way.Goals as goal

pub loop-init : goal.loop-init
loop-init c = underway_start (omega arith)

pub loop-preserved : goal.loop-preserved
loop-preserved c =
    underway_next c.loop.invariant (omega arith) c.panel_at-p.ensures c.reason_of.ensures c.forwards_to-panel.ensures c.write_step.ensures

pub returns : goal.returns
returns c = underway_end c.loop.invariant (omega arith) (omega arith) c.decimal.ensures
