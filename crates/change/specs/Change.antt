-- What goes out and which record changes, for an event that is refused, done on no record, done on one.
use Rattle.std.specs.Prelude.{ℕ, Some, None}
use Rattle.call.specs.declared.Effect.{Effect}
use Rattle.remote.specs.declared.Moved.{Moved}
use Rattle.station.specs.declared.Station.{Station}
use Rattle.station.specs.Station.{empty_answer}
use Rattle.station.specs.Step.{answer_of, far_answer}
use Rattle.change.specs.declared.Decision.{Decision}

-- refused: no record changes
abbrev pub unchanged_as : ℕ → Station → Decision
unchanged_as code s = record { change = None; reply = record { answer = empty_answer code; station = s } }

-- done on no record
abbrev pub moved_as : Moved → Station → Decision
moved_as m s = record { change = None; reply = record { answer = far_answer m; station = s } }

-- the record at i changes
abbrev pub changed_as : ℕ → Effect → Station → Decision
changed_as i x s = record { change = Some (i, x.call); reply = record { answer = answer_of i x; station = s } }
