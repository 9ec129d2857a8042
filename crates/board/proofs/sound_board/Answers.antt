use Rattle.std.proofs.Common.{◌≡◌, length, arith}
use Rattle.board.proofs.Boards.{board_tested, board_unfit}
use Rattle.board.proofs.sound_board.Goals as goal

pub returns-then-in_bounds : goal.returns-then-in_bounds
returns-then-in_bounds c =
    let long : length c.args.b.calls ≡ 64 = omega arith in
    board_tested c.args.b _ _ long c.in_bounds.ensures c.if-in_bounds.true c.sound_table.ensures

pub returns-else-in_bounds : goal.returns-else-in_bounds
returns-else-in_bounds c =
    let long : length c.args.b.calls ≡ 64 = omega arith in
    let u = board_unfit c.args.b _ long c.in_bounds.ensures c.if-in_bounds.false in
    grind (arith, c.if-in_bounds.false, u)
