-- How a run holds its table: an array of 64 records of which the first `len` are the table. It stands for the list of those; the rest of the array is none of it.
use Rattle.std.specs.Prelude.{ℕ, Bool, ◌&&◌, not, List, ◌++◌, ltb, take, drop, replicate}
use Rattle.ground.specs.Choice.{when◌then◌else◌}
use Rattle.notice.specs.Notice.{marked}
use Rattle.call.specs.declared.Call.{Call}
use Rattle.call.specs.Record.{free_call}
use Rattle.station.specs.declared.Station.{Station}
use Rattle.station.specs.Station.{fresh_station}
use Rattle.station.specs.Table.{sound}
use Rattle.board.specs.declared.Board.{Board}

-- what a panel starts with: "64 free records and a fresh station of limit 15"; "short form and `panelrun`: both set"
abbrev pub start_board : Board
start_board = record { station = fresh_station 15 marked marked; len = 64; calls = replicate 64 free_call }

-- the table that a board holds
abbrev pub table_of : Board → List Call
table_of b = take b.len b.calls

-- another station and another such table, held in its place: the rest of the array is unchanged
abbrev pub board_with : Board → Station → List Call → Board
board_with b s calls = record { station = s; len = b.len; calls = calls ++ drop b.len b.calls }

-- the test behind number 1, of a board
abbrev pub sound_board : Board → Bool
sound_board b = not (ltb 64 b.len) && sound b.station (table_of b)

-- a place of the table, or 0
abbrev pub within : ℕ → ℕ → ℕ
within place len = when ltb place len then place else 0
