-- One event on a board, as the loops of the runs go: its answer, and the board after it.
use lib.Dec.{ltb}
use Rattle.ground.specs.Choice.{when◌then◌else◌}
use Rattle.event.specs.declared.Event.{Event}
use Rattle.station.specs.declared.Answer.{Answer}
use Rattle.station.specs.Station.{empty_answer}
use Rattle.station.specs.Step.{Outcome, step, step_on_sound}
use Rattle.board.specs.declared.Board.{Board}
use Rattle.board.specs.Board.{table_of, board_with}

pub record Stepped : Type 0 where
  pub answer : Answer
  pub board : Board

-- an outcome on the board's table, put back
abbrev pub put_back : Board → Outcome → Stepped
put_back b o = record { answer = o.answer; board = board_with b o.station o.calls }

-- one event; 64 records are held at most: a longer length is "over 64 records", refused with 1
abbrev pub step_board : Board → Event → Stepped
step_board b e =
    when ltb 64 b.len then record { answer = empty_answer 1; board = b } else
    put_back b (step b.station (table_of b) e)

-- one event where the table was found sound
abbrev pub step_sound_board : Board → Event → Stepped
step_sound_board b e = put_back b (step_on_sound b.station (table_of b) e)
