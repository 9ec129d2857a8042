-- One event on the table that the host lends, of any length.
use Rattle.std.specs.Prelude.{List}
use Rattle.call.specs.declared.Call.{Call}
use Rattle.station.specs.Step.{Outcome, step}
use Rattle.pick.specs.declared.Input.{Input}
use Rattle.change.specs.declared.Reply.{Reply}

abbrev pub outcome : List Call → Input → Outcome
outcome table input = step input.station table input.event

-- the answer and the station after it
abbrev pub reply_of : List Call → Input → Reply
reply_of table input = record { answer = (outcome table input).answer; station = (outcome table input).station }

-- the records after it
abbrev pub table_after : List Call → Input → List Call
table_after table input = (outcome table input).calls
