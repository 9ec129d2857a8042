use Rattle.std.proofs.Common.{◌≡◌}
use Rattle.draw.specs.Column.{column_of}
use Rattle.copy.proofs.column.Given as goal

abbrev pub invariant-loop-i : goal.invariant-loop-i
invariant-loop-i l = l.held ≡ column_of l.i l.table
