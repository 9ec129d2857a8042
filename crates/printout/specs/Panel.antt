-- The whole printout, from the bytes of standard input.
use Rattle.std.specs.Prelude.{ℕ, ◌/◌, ◌%◌, eqb, length, replicate}
use mathlib.Core.List.{List, [], ◌++◌, flatten}
use Rattle.ground.specs.Choice.{when◌then◌else◌}
use Rattle.event.specs.declared.Event.{Event}
use Rattle.wire.specs.Record.{events_from}
use Rattle.call.specs.declared.Call.{Call}
use Rattle.call.specs.Record.{free_call}
use Rattle.station.specs.declared.Station.{Station}
use Rattle.notice.specs.Notice.{marked}
use Rattle.station.specs.Station.{fresh_station}
use Rattle.printout.specs.Line.{cut_line, printed}

-- "prints a line each"
abbrev pub lines_text : ℕ → Station → List Call → List Event → List ℕ
lines_text position s calls events = flatten (printed position s calls events)

-- "24 bytes each, no header": the records that are whole
abbrev pub whole_events : List ℕ → List Event
whole_events bytes = events_from bytes 0 (length bytes / 24)

-- "A cut last record prints `cut` and its byte count."
abbrev pub cut_text : ℕ → List ℕ
cut_text count = when eqb count 0 then [] else cut_line count

-- "reads event records from standard input, starts with 64 free records and a fresh station of limit 15, and prints a line each:
-- position from 0"; document 02, Seven: "short form and `panelrun`: both set"
unfoldable pub panel_text : List ℕ → List ℕ
panel_text bytes = lines_text 0 (fresh_station 15 marked marked) (replicate 64 free_call) (whole_events bytes) ++ cut_text (length bytes % 24)
