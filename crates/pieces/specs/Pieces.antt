-- An input that comes in pieces prints as if it came whole, wherever it is cut. The theorem is in proofs/Pieces.
use Rattle.std.specs.Prelude.{ℕ, ◌+◌, ◌*◌, ◌≤◌, ◌<◌, ◌≡◌, List, ◌++◌, length, take, drop}
use Rattle.wire.specs.Record.{events_from}
use Rattle.board.specs.declared.Board.{Board}
use Rattle.board.specs.Board.{start_board, table_of}
use Rattle.printout.specs.Panel.{lines_text, cut_text, panel_text}
use Rattle.panel.specs.Play.{board_after}

-- what is left of the input behind n records that were played: what a turn saw of the next one stays
abbrev pub unplayed : ℕ → List ℕ → List ℕ
unplayed n left = drop (n * 24) left

-- what a program prints turn by turn, from a board and a position on, of what is left of the input: a turn sees the first bytes
-- of it and plays some of their whole records; at the end less than a record is left
pub data InTurns : Board → ℕ → List ℕ → List ℕ → Type 0 where
  over : {b : Board} {position : ℕ} {left : List ℕ} → length left < 24 → InTurns b position left (cut_text (length left))
  onward : {b : Board} {position : ℕ} {left text : List ℕ} (seen n : ℕ) → seen ≤ length left → n * 24 ≤ seen
      → InTurns (board_after b (events_from (take seen left) 0 n)) (position + n) (unplayed n left) text
      → InTurns b position left (lines_text position b.station (table_of b) (events_from (take seen left) 0 n) ++ text)

abbrev pub TurnsPrint : Type 0
TurnsPrint = (input text : List ℕ) → InTurns start_board 0 input text → text ≡ panel_text input
