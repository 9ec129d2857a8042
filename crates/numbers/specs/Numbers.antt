-- The numbers on what is seen of a table. Their order is that of `station/specs/Refusals: refusal_on_sound`.
use Rattle.std.specs.Prelude.{ℕ, ◌&&◌, ◌||◌, ltb, eqb}
use Rattle.ground.specs.Choice.{when◌then◌else◌}
use Rattle.event.specs.declared.Event.{Event}
use Rattle.event.specs.Kinds.{OpenOutgoing, UserAlerted, Clock, opens, of_incoming, of_outgoing, ends}
use Rattle.call.specs.State.{wrong_call, basic_forbids, state_forbids}
use Rattle.remote.specs.Rules.{none_waits}
use Rattle.station.specs.declared.Station.{Station}
use Rattle.station.specs.Refusals.{early, ill_made, foreign_answer, over_limit, pending_already}
use Rattle.sight.specs.declared.Seen.{Seen}
use Rattle.sight.specs.Sight.{beyond}

-- "Numbers of the answers, tested in this order", from 2 on, or 0
unfoldable pub number_of : Station → Event → Seen → ℕ
number_of s e v =
    when early s e then 2 else
    when ill_made e then 3 else
    when ((of_incoming e || of_outgoing e || ends e) && beyond v) || wrong_call v.call e then 4 else
    when basic_forbids v.call e then 10 else
    when state_forbids v.call e || none_waits s.remote e then 11 else
    when foreign_answer s v.call e then 6 else
    when over_limit s v.call e then 7 else
    when opens e && beyond v then 8 else
    when pending_already s e then 9 else
    0

-- the number where an event finds no record of its own, by its kind: "8: kind 1 to 3: no free record", "4: call past the table's end"
abbrev pub no_record : ℕ → ℕ
no_record kind =
    when ltb kind OpenOutgoing then 4 else
    when ltb kind UserAlerted then 8 else
    when eqb kind Clock then 0 else
    4
