-- One event on a lent table: what is told and what becomes of its records, and how that is found from what was noted of them.
use Rattle.std.specs.Prelude.{ℕ, ◌&&◌, List}
use Rattle.ground.specs.Choice.{when◌then◌else◌}
use Rattle.event.specs.declared.Event.{Event}
use Rattle.call.specs.declared.Call.{Call}
use Rattle.station.specs.declared.Station.{Station}
use Rattle.station.specs.Step.{Outcome}
use Rattle.bounds.specs.Bounds.{in_bounds}
use Rattle.slice.specs.Table.{settled_at}
use Rattle.survey.specs.declared.Noted.{Noted}
use Rattle.sight.specs.declared.Seen.{Seen}
use Rattle.outcome.specs.Outcome.{station_on, station_far}
use Rattle.deed.specs.Deed.{acted_of}
use Rattle.turn.specs.Turn.{Turn, Refused, Far, Done, seen_in, turn_of, moved_of, decided_of}
use Rattle.pick.specs.declared.Input.{Input}
use Rattle.pick.specs.declared.Pick.{Pick}
use Rattle.pick.specs.Pick.{place_seen}
use Rattle.change.specs.declared.Decision.{Decision}
use Rattle.change.specs.Change.{unchanged_as, moved_as, changed_as}

-- what a turn on what was seen comes to
abbrev pub decision_of : Station → Event → Seen → Turn → Decision
decision_of s e v (Refused code) = unchanged_as code s
decision_of s e v Far = moved_as (moved_of s e v) (station_far s e v.identifier (moved_of s e v).remote)
decision_of s e v Done = changed_as v.place (acted_of e v) (station_on s e v.identifier)

-- one event on any table
unfoldable pub decision_on : Station → List Call → Event → Decision
decision_on s calls e = decision_of s e (seen_in s calls e) (decided_of s calls e)

-- the outcome that a decision stands for
abbrev pub outcome_by : List Call → Decision → Outcome
outcome_by calls d = record { answer = d.reply.answer; station = d.reply.station; calls = settled_at d.change calls }

abbrev pub seen_by : Input → Noted → ℕ → Pick → Call → Seen
seen_by input v n p c = record { len = n; place = place_seen v input; identifier = p.identifier; call = c }

-- "1: table empty, over 64 records or not sound, .."
abbrev pub turn_by : Input → Noted → ℕ → Pick → Call → Turn
turn_by input v n p c =
    when in_bounds n input.station && v.sound && p.apart then turn_of input.station input.event (seen_by input v n p c) else
    Refused 1

-- the decision on what was noted and picked of n records, and on the record where the event acts
abbrev pub decision_by : Input → Noted → ℕ → Pick → Call → Decision
decision_by input v n p c = decision_of input.station input.event (seen_by input v n p c) (turn_by input v n p c)
