-- A piece of the input played into a piece of the printout.
use Rattle.std.specs.Prelude.{ℕ, ◌+◌, ◌*◌, ◌/◌, min, ◌≡◌, true, List, length}
use Rattle.event.specs.declared.Event.{Event}
use Rattle.wire.specs.Record.{events_from}
use Rattle.station.specs.Step.{run}
use Rattle.board.specs.declared.Board.{Board}
use Rattle.board.specs.Board.{table_of, board_with, sound_board}
use Rattle.printout.specs.Panel.{lines_text}
use Rattle.digits.specs.Written.{Written}
use Rattle.panel.specs.declared.Played.{Played}

-- the board that a list of events leaves, where it holds at most 64 records: what the definition's run leaves of its table
unfoldable pub board_after : Board → List Event → Board
board_after b events = let r = run b.station (table_of b) events in board_with b r.station r.calls

-- room in the buffer for one line
abbrev pub line_room : ℕ
line_room = 96

-- how many records are played: those that are whole, as far as there is room for their lines
abbrev pub played_count : List ℕ → List ℕ → ℕ
played_count bytes out = min (length bytes / 24) (length out / line_room)

abbrev pub played_events : List ℕ → List ℕ → List Event
played_events bytes out = events_from bytes 0 (played_count bytes out)

-- the lines of those records stand at the buffer's start, all else in it is as it was, and the result says where the next piece
-- begins: its board, its position, the bytes that were used and those that were written
pub record Plays (b : Board) (position : ℕ) (bytes old new : List ℕ) (r : Played) : Type 0 where
  pub text : Written (lines_text position b.station (table_of b) (played_events bytes old)) 0 old new r.written
  pub used : r.used ≡ played_count bytes old * 24
  pub next : r.position ≡ position + played_count bytes old
  pub board : r.board ≡ board_after b (played_events bytes old)
  pub sound : sound_board r.board ≡ true
