-- The loop keeps a sound board, less than a record of bytes held, and a position that fits for as many turns as are left.
use Rattle.std.proofs.Common.{◌≡◌, true, ◌*◌, ◌≤◌, ◌<◌}
use Rattle.board.specs.Board.{sound_board}
use Rattle.panelrun.proofs.main.Given as goal

abbrev pub invariant-loop : goal.invariant-loop
invariant-loop l = (sound_board l.run.board ≡ true) × (l.run.position ≤ l.counter * 2730) × (l.run.held < 24)
