-- A run over many events, as bytes.
use Rattle.std.specs.Prelude.{ℕ, ◌/◌, ◌%◌, List, ltb, length}
use Rattle.ground.specs.Choice.{when◌then◌else◌}
use Rattle.wire.specs.Record.{events_from}
use Rattle.station.specs.Step as list
use Rattle.board.specs.declared.Board.{Board}
use Rattle.board.specs.Board.{table_of, board_with}
use Rattle.runs.specs.declared.Ran.{Ran}

abbrev pub ran : ℕ → ℕ → ℕ → Board → Ran
ran done refused cut b = record { done = done; refused = refused; cut = cut; board = b }

-- what a run of the definition leaves, as the code holds it
abbrev pub on_board : Board → ℕ → list.Ran → Ran
on_board b cut r = ran r.done r.refused cut (board_with b r.station r.calls)

-- all whole records, in order: the definition's run over the table that the board holds; a cut last record is said, by its byte
-- count, and not run. A board longer than 64 is "over 64 records": each is refused, with 1, and it stays
abbrev pub run_board : Board → List ℕ → Ran
run_board b bytes =
    when ltb 64 b.len then ran 0 (length bytes / 24) (length bytes % 24) b else
    on_board b (length bytes % 24) (list.run b.station (table_of b) (events_from bytes 0 (length bytes / 24)))
