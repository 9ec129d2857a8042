-- One event decided without the table: on what is seen of it.
use Rattle.std.specs.Prelude.{ℕ, ◌≤◌, ◌<◌, true, ◌||◌, not, List, ◌≡◌, eqb, length, set, Result, Ok, Err}
use Rattle.ground.specs.Choice.{when◌then◌else◌}
use Rattle.event.specs.declared.Event.{Event}
use Rattle.event.specs.declared.Refusal.{Refusal}
use Rattle.event.specs.Kinds.{diverts}
use Rattle.event.specs.Refusals as refusals
use Rattle.event.specs.Remote.{asks, of_remote}
use Rattle.call.specs.declared.Call.{Call}
use Rattle.remote.specs.declared.Moved.{Moved}
use Rattle.remote.specs.Rules as far
use Rattle.station.specs.declared.Station.{Station}
use Rattle.station.specs.Table.{at, place, identifier_for}
use Rattle.station.specs.Refusals.{not_sound}
use Rattle.station.specs.Step.{Outcome, refused, answer_of, far_answer}
use Rattle.sight.specs.declared.Seen.{Seen}
use Rattle.sight.specs.Sight.{beyond}
use Rattle.numbers.specs.Numbers.{number_of}
use Rattle.deed.specs.Deed.{acted_of}
use Rattle.outcome.specs.Outcome.{station_on, station_far}
use Rattle.turn.specs.declared.DoneOn.{DoneOn}
use Rattle.turn.specs.declared.DoneOn.TheVariants.{Held, Record}

-- what becomes of an event: refused, by its number; done on what the station holds; done on the record at its place
pub data Turn : Type 0 where
  Refused : (code : ℕ) → Turn
  Far : Turn
  Done : Turn

-- what an event needs of the table
abbrev pub seen_in : Station → List Call → Event → Seen
seen_in s calls e = record { len = length calls; place = place calls e; identifier = identifier_for s calls; call = at calls (place calls e) }

-- one event where the table was found sound; kinds 16 to 31, and a clock event with no T1 request due, act on no record
unfoldable pub turn_of : Station → Event → Seen → Turn
turn_of s e v =
    when not (eqb (number_of s e v) 0) then Refused (number_of s e v) else
    when of_remote e || beyond v then Far else
    Done

-- the turn that the code's result stands for
abbrev pub turn_by : Result DoneOn Refusal → Turn
turn_by (Err r) = Refused (refusals.number_of r)
turn_by (Ok Held) = Far
turn_by (Ok Record) = Done

-- what an event that acts on no record does to what the station holds
abbrev pub moved_of : Station → Event → Seen → Moved
moved_of s e v = far.step s.remote e v.identifier

-- one event on any table
unfoldable pub decided_of : Station → List Call → Event → Turn
decided_of s calls e = when not_sound s calls then Refused 1 else turn_of s e (seen_in s calls e)

-- the outcome that a turn stands for
abbrev pub outcome_of : Station → List Call → Event → Seen → Turn → Outcome
outcome_of s calls e v (Refused code) = refused s calls code
outcome_of s calls e v Far = record {
  answer = far_answer (moved_of s e v);
  station = station_far s e v.identifier (moved_of s e v).remote;
  calls = calls;
}
outcome_of s calls e v Done = record {
  answer = answer_of v.place (acted_of e v);
  station = station_on s e v.identifier;
  calls = set calls v.place (acted_of e v).call;
}

-- what is seen of a table tells enough: past the end any place will do, and any record; only a request needs an identifier
pub record Sees (s : Station) (calls : List Call) (e : Event) (v : Seen) : Type 0 where
  pub size : v.len ≡ length calls
  pub near : place calls e < length calls → v.place ≡ place calls e
  pub far : length calls ≤ place calls e → length calls ≤ v.place
  pub there : v.place < length calls → v.call ≡ at calls v.place
  pub drawn : diverts e || asks e ≡ true → v.identifier ≡ identifier_for s calls
