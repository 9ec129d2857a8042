-- Demand 3: "two runs from the same sound table and station, over event lists that differ only in that options on received
-- invokes (kinds 12, 13) become stricter or presentation marks (kind 14) turn from allowed to forbidden, give at each event the
-- same code, call, identifier, counter and messages (arguments included), and agree in basic states, service states and
-- timers. The stricter run shows a notice or a number only where the other does, the same one. In calls where nothing was
-- tightened the whole answers are equal."
-- How two events differ is `StricterEvent` of call's specs/Stricter. A primed name is the stricter run's.
use Rattle.std.specs.Prelude.{ℕ, ◌≡◌, Bool, false, ◌&&◌, ◌||◌, not, T, eqb}
use mathlib.Core.List.{List, [], ◌∷◌, map, Forall₂}
use Rattle.ground.specs.Choice.{when◌then◌else◌}
use Rattle.event.specs.declared.Event.{Event}
use Rattle.event.specs.Kinds.{opens}
use Rattle.notice.specs.Notice.{no_notice, no_number}
use Rattle.notice.specs.Stricter.{ShownOnlyWhere}
use Rattle.waits.specs.Waits.{dli1s}
use Rattle.waits.specs.Laws.{dli1_number, dli1_reason}
use Rattle.call.specs.declared.Call.{Call}
use Rattle.call.specs.Record.{forwarded_party}
use Rattle.call.specs.Stricter.{StricterEvent}
use Rattle.station.specs.declared.Station.{Station}
use Rattle.station.specs.declared.Answer.{Answer}
use Rattle.station.specs.Table.{sound, place}
use Rattle.station.specs.Refusals.{refusal}
use Rattle.station.specs.Step.{Outcome, on_call, TurnTaken, place_in, turns, outcomes}

-- "the same code, call, identifier, counter and messages (arguments included)"; "a notice or a number only where the other does"
pub record StricterAnswer (a a' : Answer) : Type 0 where
  pub code : a'.code ≡ a.code
  pub call : a'.call ≡ a.call
  pub sent : a'.sent ≡ a.sent
  pub identifier : a'.identifier ≡ a.identifier
  pub counter : a'.counter ≡ a.counter
  pub notice : ShownOnlyWhere no_notice a.notice a'.notice
  pub number : ShownOnlyWhere no_number a.number a'.number

-- "agree in basic states, service states and timers", and in every other field but the options that wait with leg 2 and the
-- history's strictest option and marks
pub record SameStates (c c' : Call) : Type 0 where
  pub direction : c'.direction ≡ c.direction
  pub basic : c'.basic ≡ c.basic
  pub cdo : c'.cdo ≡ c.cdo
  pub cdr : c'.cdr ≡ c.cdr
  pub cds : c'.cds ≡ c.cds
  pub cdf : c'.cdf ≡ c.cdf
  pub granted : c'.granted ≡ c.granted
  pub identifier : c'.identifier ≡ c.identifier
  pub start : c'.start ≡ c.start
  pub reason : c'.reason ≡ c.reason
  pub counter : c'.counter ≡ c.counter
  pub party : c'.party ≡ c.party
  pub forwarded : forwarded_party c' ≡ forwarded_party c
  pub waiting_count : c'.waiting.count ≡ c.waiting.count
  pub waiting_numbers : map dli1_number (dli1s c'.waiting) ≡ map dli1_number (dli1s c.waiting)
  pub waiting_reasons : map dli1_reason (dli1s c'.waiting) ≡ map dli1_reason (dli1s c.waiting)
  pub seen : c'.history.seen ≡ c.history.seen
  pub nominated : c'.history.nominated ≡ c.history.nominated
  pub own : c'.own ≡ c.own
  pub diverting : c'.diverting ≡ c.diverting
  pub original : c'.original ≡ c.original

-- at each event
pub record StricterOutcome (o o' : Outcome) : Type 0 where
  pub answer : StricterAnswer o.answer o'.answer
  pub station : o'.station ≡ o.station
  pub calls : Forall₂ SameStates o.calls o'.calls

-- "two runs from the same sound table and station, over event lists that differ only in that .."
abbrev pub RunsStricter : Type 0
RunsStricter =
    (s : Station) (calls : List Call) (es es' : List Event) → T (sound s calls) → Forall₂ StricterEvent es es'
    → Forall₂ StricterOutcome (outcomes s calls es) (outcomes s calls es')

-- "Calls" are lives of a record: from an open that is done on, until the next one that takes the record. The marks say of each
-- place whether the life there was touched.

-- the event was tightened
abbrev pub tightened : Event → Event → Bool
tightened e e' = not (eqb e'.option e.option && eqb e'.flag e.flag)

-- the event is done on a record: it is not refused, none of kinds 16 to 31, nor a clock event with no T1 request due
abbrev pub acts : Station → List Call → Event → Bool
acts s calls e = eqb (refusal s calls e) 0 && on_call calls e

-- the same of a turn
abbrev pub acts_in : TurnTaken → Bool
acts_in t = acts t.station t.calls t.event

-- an event that is done touched its call, or one before it did; an open begins a call
abbrev pub touched_by : (ℕ → Bool) → List Call → Event → Event → Bool
touched_by touched calls e e' = not (opens e) && (touched (place calls e) || tightened e e')

abbrev pub touched_after : (ℕ → Bool) → TurnTaken → Event → ℕ → Bool
touched_after touched t e' i = when acts_in t && eqb i (place_in t) then touched_by touched t.calls t.event e' else touched i

-- "In calls where nothing was tightened the whole answers are equal": wherever the event doesn't act on a call that was touched
pub data WholeAnswers : (ℕ → Bool) → List TurnTaken → List TurnTaken → Type 0 where
  over : {touched : ℕ → Bool} → WholeAnswers touched [] []
  onward : {touched : ℕ → Bool} {t t' : TurnTaken} {ts ts' : List TurnTaken}
      → (T (not (acts_in t && touched_by touched t.calls t.event t'.event)) → t'.outcome.answer ≡ t.outcome.answer)
      → WholeAnswers (touched_after touched t t'.event) ts ts'
      → WholeAnswers touched (t ∷ ts) (t' ∷ ts')

-- at first no call was touched
abbrev pub untouched : ℕ → Bool
untouched i = false

abbrev pub LivesEqual : Type 0
LivesEqual =
    (s : Station) (calls : List Call) (es es' : List Event) → T (sound s calls) → Forall₂ StricterEvent es es'
    → WholeAnswers untouched (turns s calls es) (turns s calls es')
