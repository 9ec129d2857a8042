-- One event on the board that a driver stands for.
use Rattle.std.specs.Prelude.{◌≤◌, ◌<◌, ◌≡◌, Result, Ok, Err, is_ok, eqb}
use Rattle.event.specs.declared.Event.{Event}
use Rattle.event.specs.declared.Refusal.{Refusal}
use Rattle.event.specs.Refusals.{number_of}
use Rattle.station.specs.declared.Answer.{Answer}
use Rattle.station.specs.Station.{empty_answer}
use Rattle.station.specs.Table.{at}
use Rattle.station.specs.Step.{Outcome, step_on_sound}
use Rattle.sight.specs.declared.Seen.{Seen}
use Rattle.board.specs.declared.Board.{Board}
use Rattle.board.specs.Board.{table_of, board_with}

-- what the definition makes of an event, where the table was found sound
abbrev pub outcome_on : Board → Event → Outcome
outcome_on b e = step_on_sound b.station (table_of b) e

-- the answer that is told: "A refusal's answer is its number and otherwise empty"
abbrev pub told : Result Answer Refusal → Answer
told (Ok a) = a
told (Err r) = empty_answer (number_of r)

-- what an event is answered with, done or refused, and the board after it
pub record Drives (b : Board) (e : Event) (r : Result Answer Refusal) (after : Board) : Type 0 where
  pub answer : told r ≡ (outcome_on b e).answer
  pub done : is_ok r ≡ eqb (outcome_on b e).answer.code 0
  pub board : after ≡ board_with b (outcome_on b e).station (outcome_on b e).calls

-- what was seen is a record of the board, which holds 64 at most
pub record Reads (b : Board) (v : Seen) : Type 0 where
  pub short : b.len ≤ 64
  pub there : v.place < b.len
  pub call : v.call ≡ at (table_of b) v.place
