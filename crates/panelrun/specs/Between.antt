-- What holds between two turns of the program: the fact of its loop.
use Rattle.std.specs.Prelude.{ℕ, ◌+◌, ◌≤◌, ◌<◌, ◌≡◌, true}
use Rattle.board.specs.Board.{sound_board}
use Rattle.panelrun.specs.declared.Run.{Run}

-- a sound board, less than a record of bytes held, and a position for each record that was played
pub record Between (position : ℕ) (r : Run) : Type 0 where
  pub sound : sound_board r.board ≡ true
  pub near : r.position ≤ position + 2730
  pub short : r.held < 24
