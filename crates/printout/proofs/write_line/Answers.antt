use Rattle.std.proofs.Common.{rules}
use Rattle.digits.proofs.Texts.{wrote_then}
use Rattle.printout.proofs.Pieces.{line_parts}
use Rattle.printout.proofs.write_line.Goals as goal

pub returns-clause-written : goal.returns-clause-written
returns-clause-written c =
    let w = rw (line_parts c.args.position c.args.a) at (wrote_then (wrote_then c.write_start.ensures c.write_shown.ensures) c.write_end.ensures) in search rules
