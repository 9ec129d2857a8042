-- One event, and a list of them.
use Rattle.std.specs.Prelude.{ℕ, ◌+◌, Bool, ◌&&◌, ◌||◌, not, ltb, eqb, length, set}
use mathlib.Core.List.{List, [], ◌∷◌, map, foldl}
use Rattle.ground.specs.Choice.{when◌then◌else◌}
use Rattle.event.specs.declared.Event.{Event}
use Rattle.event.specs.Kinds.{diverts}
use Rattle.event.specs.Remote.{asks, of_remote}
use Rattle.notice.specs.Notice.{no_notice, no_number}
use Rattle.identifier.specs.Identifier.{after}
use Rattle.call.specs.declared.Call.{Call}
use Rattle.call.specs.declared.Effect.{Effect}
use Rattle.call.specs.Act.{act}
use Rattle.call.specs.Messages.{no_counter, one}
use Rattle.remote.specs.declared.Remote.{Remote}
use Rattle.remote.specs.declared.Moved.{Moved}
use Rattle.remote.specs.Rules as far
use Rattle.station.specs.declared.Station.{Station}
use Rattle.station.specs.declared.Answer.{Answer}
use Rattle.station.specs.Station.{no_call, empty_answer}
use Rattle.station.specs.Table.{at, identifier_for, place}
use Rattle.station.specs.Refusals.{refusal, refusal_on_sound}

-- the answer to an event, and the station and the records after it
pub record Outcome : Type 0 where
  pub answer : Answer
  pub station : Station
  pub calls : List Call

-- "A refusal's answer is its number and otherwise empty; records and station stay."
abbrev pub refused : Station → List Call → ℕ → Outcome
refused s calls code = record { answer = empty_answer code; station = s; calls = calls }

-- "the one after it is next"
abbrev pub next_after : Station → List Call → Event → ℕ
next_after s calls e = when diverts e || asks e then after (identifier_for s calls) else s.next

-- "A done event makes its time the last time."
abbrev pub station_with : Station → List Call → Event → Remote → Station
station_with s calls e r = record { last = e.time; next = next_after s calls e; limit = s.limit; remote = r }

abbrev pub station_after : Station → List Call → Event → Station
station_after s calls e = station_with s calls e s.remote

-- "Its answer holds the call, up to three messages with leg and arguments .., notice and number for the caller, and an
-- identifier and counter where a message has them"
abbrev pub answer_of : ℕ → Effect → Answer
answer_of i x = record {
  code = 0;
  call = i;
  sent = x.sent;
  notice = x.notice;
  number = x.number;
  identifier = x.identifier;
  counter = x.counter;
}

-- kinds 16 to 31, and a clock event with no T1 request due, name no call and act on what the station holds
abbrev pub far_answer : Moved → Answer
far_answer m = record {
  code = 0;
  call = no_call;
  sent = one m.message;
  notice = no_notice;
  number = no_number;
  identifier = m.identifier;
  counter = no_counter;
}

abbrev pub far_done : Station → List Call → Event → Moved → Outcome
far_done s calls e m = record { answer = far_answer m; station = station_with s calls e m.remote; calls = calls }

-- what an event does there
abbrev pub far_moved : Station → List Call → Event → Moved
far_moved s calls e = far.step s.remote e (identifier_for s calls)

-- the effect on the record at a place
abbrev pub effect_at : Station → List Call → Event → ℕ → Effect
effect_at s calls e i = act (at calls i) e (identifier_for s calls)

-- the record at a place after its effect, and the answer
abbrev pub done_at : Station → List Call → Event → ℕ → Effect → Outcome
done_at s calls e i x = record { answer = answer_of i x; station = station_after s calls e; calls = set calls i x.call }

-- the event acts on a record: it is none of kinds 16 to 31, nor a clock event with no T1 request due ("Clock events end T1 requests
-- first, then T2 to T5")
abbrev pub on_call : List Call → Event → Bool
on_call calls e = not (of_remote e) && ltb (place calls e) (length calls)

-- "0: done": on the record at its place, or on what the station holds. A clock event with none of T1 to T5 due is of these: "With none due,
-- the answer has no call." (`unmoved` of `remote`)
unfoldable pub done : Station → List Call → Event → Outcome
done s calls e =
    when on_call calls e then done_at s calls e (place calls e) (effect_at s calls e (place calls e)) else
    far_done s calls e (far_moved s calls e)

-- done where the number is 0, else refused with it
unfoldable pub by_number : Station → List Call → Event → ℕ → Outcome
by_number s calls e code = when eqb code 0 then done s calls e else refused s calls code

-- one event
unfoldable pub step : Station → List Call → Event → Outcome
step s calls e = by_number s calls e (refusal s calls e)

-- one event where the table was found sound: the same, without that test
unfoldable pub step_on_sound : Station → List Call → Event → Outcome
step_on_sound s calls e = by_number s calls e (refusal_on_sound s calls e)

-- one turn of a run: the station and the records before the event, the event, and what came of it
pub record TurnTaken : Type 0 where
  pub station : Station
  pub calls : List Call
  pub event : Event
  pub outcome : Outcome

abbrev pub turn : Station → List Call → Event → TurnTaken
turn s calls e = record { station = s; calls = calls; event = e; outcome = step s calls e }

-- where its event acts
abbrev pub place_in : TurnTaken → ℕ
place_in t = place t.calls t.event

-- the turns of a list of events, in order, each on what the one before it left: what is said of a run is said of them
unfoldable pub turns : Station → List Call → List Event → List TurnTaken
turns s calls [] = []
turns s calls (e ∷ rest) = let t = turn s calls e in t ∷ turns t.outcome.station t.outcome.calls rest

-- the outcome of each event, in order
abbrev pub outcomes : Station → List Call → List Event → List Outcome
outcomes s calls events = map (λ t. t.outcome) (turns s calls events)

-- what a run of a list leaves, and how many events were done and how many refused
pub record Ran : Type 0 where
  pub done : ℕ
  pub refused : ℕ
  pub station : Station
  pub calls : List Call

abbrev pub counted : Ran → Outcome → Ran
counted r o = record {
  done = when eqb o.answer.code 0 then r.done + 1 else r.done;
  refused = when eqb o.answer.code 0 then r.refused else r.refused + 1;
  station = o.station;
  calls = o.calls;
}

abbrev pub run_step : Ran → Event → Ran
run_step r e = counted r (step r.station r.calls e)

unfoldable pub run_on : Ran → List Event → Ran
unfolding turns
run_on r events = foldl counted r (outcomes r.station r.calls events)

abbrev pub run : Station → List Call → List Event → Ran
run s calls events = run_on (record { done = 0; refused = 0; station = s; calls = calls }) events
