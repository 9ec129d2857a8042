-- Demand 2 over the table: what the events keep, what a request takes, how it ends, and what a clock event does. The theorems
-- are in proofs/Kept, Lists, Requests, There, Places, Named, Asking, Endings and Clocks. How the station's own requests begin and end
-- is said in FarRequests.
use Rattle.std.specs.Prelude.{ℕ, ◌+◌, ◌≤◌, ◌<◌, ◌≡◌, Bool, not, ◌||◌, ◌↔◌, List, ◌∷◌, ◌++◌, T, eqb, length, get_or, set, replicate}
use Rattle.std.proofs.Math.Option.{Option, none, some}
use Rattle.ground.specs.Choice.{when◌then◌else◌}
use Rattle.ground.specs.Lists.{all}
use Rattle.event.specs.declared.Event.{Event}
use Rattle.event.specs.Kinds.{UserAnswers, ReroutingResult, ReroutingError, ReroutingInvoke, FarEndEnds, opens, answers_request, diverts, clock, ends}
use Rattle.event.specs.Remote.{sorts, asks, of_remote}
use Rattle.identifier.specs.Identifier.{candidates, after, distinct}
use Rattle.identifier.specs.Statements.{First}
use Rattle.call.specs.declared.Call.{Call}
use Rattle.call.specs.Record.{free_call, is_free, requested, granted}
use Rattle.call.specs.Incoming.{counter_sent, due, idle}
use Rattle.timed.specs.Timed as timed
use Rattle.timed.specs.Timed.{waits}
use Rattle.remote.specs.Kinds.{length_of}
use Rattle.remote.specs.Held.{pending_of}
use Rattle.station.specs.declared.Station.{Station}
use Rattle.station.specs.Station.{fresh_ok, fresh_station, empty_answer}
use Rattle.station.specs.Table.{at, open_identifiers, sound, identifier_for, place}
use Rattle.station.specs.Step.{Outcome, step, TurnTaken, turn, turns, outcomes, Ran, run_on, run}
use Rattle.station.specs.Demand1.{code_of}

-- "Each done event leaves a sound table", and a refused one leaves it as it was
abbrev pub StepSound : Type 0
StepSound = (s : Station) (calls : List Call) (e : Event) → T (sound s calls) → T (sound (step s calls e).station (step s calls e).calls)

-- so does a list of them, after each and at its end
abbrev pub OutcomesSound : Type 0
OutcomesSound =
    (s : Station) (calls : List Call) (events : List Event) → T (sound s calls)
    → T (all (λ o. sound o.station o.calls) (outcomes s calls events))

abbrev pub RunSound : Type 0
RunSound =
    (r : Ran) (events : List Event) → T (sound r.station r.calls) → T (sound (run_on r events).station (run_on r events).calls)

-- each event of a list acts on what those before it left, and none is passed over
abbrev pub TurnsEach : Type 0
TurnsEach =
    (s : Station) (calls : List Call) (before : List Event) (e : Event) (behind : List Event) (d : TurnTaken)
    → get_or (turns s calls (before ++ (e ∷ behind))) (length before) d ≡ turn (run s calls before).station (run s calls before).calls e

abbrev pub OutcomesEach : Type 0
OutcomesEach =
    (s : Station) (calls : List Call) (before : List Event) (e : Event) (behind : List Event) (d : Outcome)
    → get_or (outcomes s calls (before ++ (e ∷ behind))) (length before) d ≡ step (run s calls before).station (run s calls before).calls e

abbrev pub OutcomesLength : Type 0
OutcomesLength = (s : Station) (calls : List Call) (events : List Event) → length (outcomes s calls events) ≡ length events

abbrev pub RunCounts : Type 0
RunCounts = (s : Station) (calls : List Call) (events : List Event) → (run s calls events).done + (run s calls events).refused ≡ length events

-- a fresh station with 1 to 64 free records is sound
abbrev pub FreshSound : Type 0
FreshSound =
    (limit enabled allowed n : ℕ) → T (fresh_ok limit enabled allowed) → 1 ≤ n → n ≤ 64
    → T (sound (fresh_station limit enabled allowed) (replicate n free_call))

-- the record at a place has an open request with an identifier
pub record Open (calls : List Call) (i identifier : ℕ) : Type 0 where
  pub asked : T (requested (at calls i))
  pub bears : (at calls i).identifier ≡ identifier

-- the station's request of a sort is open with an identifier
pub record FarOpen (s : Station) (sort identifier : ℕ) : Type 0 where
  pub small : sort < sorts
  pub asked : T (waits (pending_of sort s.remote.pending))
  pub bears : (pending_of sort s.remote.pending).identifier ≡ identifier

-- "no two open requests share" covers both tables: two records, two sorts, a record and a sort
pub record Apart (s : Station) (calls : List Call) : Type 0 where
  pub near : (i j identifier : ℕ) → Open calls i identifier → Open calls j identifier → i ≡ j
  pub far : (i j identifier : ℕ) → FarOpen s i identifier → FarOpen s j identifier → i ≡ j
  pub between : (i j identifier : ℕ) → Open calls i identifier → FarOpen s j identifier → ⊥

abbrev pub DistinctReads : Type 0
DistinctReads = (s : Station) (calls : List Call) → T (distinct (open_identifiers s calls)) ↔ Apart s calls

abbrev pub SoundApart : Type 0
SoundApart = (s : Station) (calls : List Call) → T (sound s calls) → Apart s calls

-- "takes the first identifier from the next one on that no open request has": one of 69 candidates,
-- and no other is so
pub record Drawn (s : Station) (calls : List Call) (identifier : ℕ) : Type 0 where
  pub first : First (open_identifiers s calls) s.next identifier
  pub near : first.steps < candidates
  pub free : (i : ℕ) → Open calls i identifier → ⊥
  pub far_free : (sort : ℕ) → FarOpen s sort identifier → ⊥
  pub only : (other : ℕ) → First (open_identifiers s calls) s.next other → other ≡ identifier

abbrev pub SoundDraws : Type 0
SoundDraws = (s : Station) (calls : List Call) → T (sound s calls) → Drawn s calls (identifier_for s calls)

-- no open request bears an identifier, of a call or of the station
pub record NoneBears (s : Station) (calls : List Call) (identifier : ℕ) : Type 0 where
  pub near : (i : ℕ) → Open calls i identifier → ⊥
  pub far : (sort : ℕ) → FarOpen s sort identifier → ⊥

-- Document 02, Three: no identifier of ours is 0. No open request of a sound table bears it,
abbrev pub RequestsThere : Type 0
RequestsThere = (s : Station) (calls : List Call) → T (sound s calls) → NoneBears s calls 0

-- nor does one that a list of events leaves open,
abbrev pub RunThere : Type 0
RunThere = (s : Station) (calls : List Call) (events : List Event) → T (sound s calls) → NoneBears (run s calls events).station (run s calls events).calls 0

-- nor does the one that the next request takes,
abbrev pub DrawnThere : Type 0
DrawnThere = (s : Station) (calls : List Call) → T (sound s calls) → identifier_for s calls ≡ 0 → ⊥

-- nor the one that the answer to a done request names, which the request and its invoke bear too (`Asks`, `FarAsked`),
abbrev pub DivertThere : Type 0
DivertThere = (s : Station) (calls : List Call) (e : Event) → T (diverts e || asks e) → code_of s calls e ≡ 0 → (step s calls e).answer.identifier ≡ 0 → ⊥

-- and no done event leaves it as the next
abbrev pub NextThere : Type 0
NextThere = (s : Station) (calls : List Call) (e : Event) → code_of s calls e ≡ 0 → (step s calls e).station.next ≡ 0 → ⊥

-- "Received invokes may still bear 0 and it is echoed.": what a host is told and sends (of kinds 20 to 23: `FarEchoed`)
abbrev pub InvokeEchoed : Type 0
InvokeEchoed =
    (s : Station) (calls : List Call) (e : Event)
    → e.kind ≡ ReroutingInvoke
    → code_of s calls e ≡ 0
    → ((step s calls e).answer.identifier ≡ e.identifier) × ((step s calls e).answer.sent.first.identifier ≡ e.identifier)

-- "6: .. Sends the callRerouting invoke with .. counter plus 1 .. Enters Requested, starts T1."; "the one after it is next"
pub record Asks (s : Station) (before : List Call) (e : Event) (o : Outcome) : Type 0 where
  pub request : Open o.calls e.call (identifier_for s before)
  pub reason : (at o.calls e.call).reason ≡ e.reason
  pub start : (at o.calls e.call).start ≡ e.time
  pub next : o.station.next ≡ after (identifier_for s before)
  pub identifier : o.answer.identifier ≡ identifier_for s before
  pub counter : o.answer.counter ≡ counter_sent (at before e.call)
  pub invoke_identifier : o.answer.sent.first.identifier ≡ identifier_for s before
  pub invoke_counter : o.answer.sent.first.counter ≡ counter_sent (at before e.call)

abbrev pub DivertAsks : Type 0
DivertAsks = (s : Station) (calls : List Call) (e : Event) → T (diverts e) → code_of s calls e ≡ 0 → Asks s calls e (step s calls e)

-- every other event leaves the next identifier
abbrev pub NextStays : Type 0
NextStays = (s : Station) (calls : List Call) (e : Event) → T (not (diverts e || asks e)) → (step s calls e).station.next ≡ s.next

-- an event changes at most one record, that at its place: the one it opens, ends by the clock or names
abbrev pub OthersStay : Type 0
OthersStay = (s : Station) (calls : List Call) (e : Event) (j : ℕ) → (j ≡ place calls e → ⊥) → at (step s calls e).calls j ≡ at calls j

abbrev pub LengthStays : Type 0
LengthStays = (s : Station) (calls : List Call) (e : Event) → length (step s calls e).calls ≡ length calls

-- the lowest record that passes a test
pub record Lowest (p : Call → Bool) (calls : List Call) (i : ℕ) : Type 0 where
  pub there : i < length calls
  pub passes : T (p (at calls i))
  pub lower : (j : ℕ) → j < i → T (not (p (at calls j)))

-- "Its answer holds the call": every done event but a clock event and kinds 16 to 31 has a record to act on, and names it
pub record Names (calls : List Call) (e : Event) (o : Outcome) : Type 0 where
  pub there : place calls e < length calls
  pub call : o.answer.call ≡ place calls e

abbrev pub DoneNames : Type 0
DoneNames =
    (s : Station) (calls : List Call) (e : Event) → code_of s calls e ≡ 0 → T (not (clock e)) → T (not (of_remote e)) → Names calls e (step s calls e)

-- "An open takes the lowest free record."
abbrev pub OpenTakes : Type 0
OpenTakes = (s : Station) (calls : List Call) (e : Event) → code_of s calls e ≡ 0 → T (opens e) → Lowest is_free calls (step s calls e).answer.call

-- "7: Idle, granted. 8: Idle, not granted.": the request of that call with that identifier ends, and every other record stays
pub record Settles (before : List Call) (e : Event) (o : Outcome) : Type 0 where
  pub request : Open before e.call e.identifier
  pub over : T (not (requested (at o.calls e.call)))
  pub grants : granted (at o.calls e.call) ≡ eqb e.kind ReroutingResult
  pub others : (j : ℕ) → (j ≡ e.call → ⊥) → at o.calls j ≡ at before j

abbrev pub OutcomeSettles : Type 0
OutcomeSettles = (s : Station) (calls : List Call) (e : Event) → T (answers_request e) → code_of s calls e ≡ 0 → Settles calls e (step s calls e)

-- a late or foreign one, for which that call has no open request with that identifier, is refused and changes nothing
pub record Foreign (s : Station) (before : List Call) (o : Outcome) : Type 0 where
  pub refused : o.answer.code ≡ 0 → ⊥
  pub station : o.station ≡ s
  pub calls : o.calls ≡ before

abbrev pub ForeignStays : Type 0
ForeignStays =
    (s : Station) (calls : List Call) (e : Event) → T (answers_request e) → (Open calls e.call e.identifier → ⊥)
    → Foreign s calls (step s calls e)

-- an open request begins by a done divert of its call only, with the identifier that was drawn
pub record Begun (s : Station) (calls : List Call) (e : Event) (i identifier : ℕ) : Type 0 where
  pub done : code_of s calls e ≡ 0
  pub kind : T (diverts e)
  pub here : e.call ≡ i
  pub drawn : identifier ≡ identifier_for s calls

abbrev pub BeginsOnly : Type 0
BeginsOnly =
    (s : Station) (calls : List Call) (e : Event) (i identifier : ℕ) → (Open calls i identifier → ⊥)
    → Open (step s calls e).calls i identifier → Begun s calls e i identifier

-- how an open request ends: by its result, by its error or reject, by its expiry, by an answer of the call or by the end of the call
pub data Ending : Type 0 where
  result reject expiry answered closed : Ending

-- the ending that a kind of event brings
abbrev pub ending_of : Event → Option Ending
ending_of e =
    when eqb e.kind ReroutingResult then some result else
    when eqb e.kind ReroutingError then some reject else
    when clock e then some expiry else
    when eqb e.kind UserAnswers then some answered else
    when ends e || eqb e.kind FarEndEnds then some closed else
    none

-- an event that was done at a place and has an ending
pub record Ended (s : Station) (calls : List Call) (e : Event) (i : ℕ) : Type 0 where
  pub done : code_of s calls e ≡ 0
  pub here : place calls e ≡ i
  pub way : Ending
  pub kind : ending_of e ≡ some way

-- an open request ends in one of these ways only
abbrev pub EndsOnly : Type 0
EndsOnly =
    (s : Station) (calls : List Call) (e : Event) (i identifier : ℕ) → Open calls i identifier
    → (Open (step s calls e).calls i identifier → ⊥) → Ended s calls e i

-- and each of them ends it
abbrev pub EndsIndeed : Type 0
EndsIndeed =
    (s : Station) (calls : List Call) (e : Event) (i : ℕ) → T (requested (at calls i)) → Ended s calls e i
    → T (not (requested (at (step s calls e).calls i)))

-- no record is due
abbrev pub NothingDue : ℕ → List Call → Type 0
NothingDue time calls = (i : ℕ) → T (not (due time (at calls i)))

-- "of the records Requested with time minus start at least 10,000, the lowest ends as by a reject and the answer names call
-- and identifier"; one event ends one request: those of the station stay
pub record Expires (s : Station) (before : List Call) (i : ℕ) (o : Outcome) : Type 0 where
  pub call : o.answer.call ≡ i
  pub identifier : o.answer.identifier ≡ (at before i).identifier
  pub calls : o.calls ≡ set before i (idle (at before i))
  pub remote : o.station.remote ≡ s.remote

abbrev pub ClockEnds : Type 0
ClockEnds =
    (s : Station) (calls : List Call) (e : Event) (i : ℕ) → T (clock e) → code_of s calls e ≡ 0 → Lowest (due e.time) calls i
    → Expires s calls i (step s calls e)

-- the station's request of a sort is due, of T2 to T5; none of them is
abbrev pub far_due : ℕ → Station → ℕ → Bool
far_due time s sort = timed.due (length_of sort) time (pending_of sort s.remote.pending)

abbrev pub NothingFar : ℕ → Station → Type 0
NothingFar time s = (sort : ℕ) → sort < sorts → T (not (far_due time s sort))

-- "With none due, the answer has no call."
pub record Passes (s : Station) (before : List Call) (o : Outcome) : Type 0 where
  pub answer : o.answer ≡ empty_answer 0
  pub remote : o.station.remote ≡ s.remote
  pub calls : o.calls ≡ before

abbrev pub ClockPasses : Type 0
ClockPasses =
    (s : Station) (calls : List Call) (e : Event) → T (clock e) → code_of s calls e ≡ 0 → NothingDue e.time calls → NothingFar e.time s
    → Passes s calls (step s calls e)

-- "68 of them leave nothing due", if they are done: where the first is, all are
pub record Cleared (time n : ℕ) (r : Ran) : Type 0 where
  pub done : r.done ≡ n
  pub refused : r.refused ≡ 0
  pub none : NothingDue time r.calls
  pub far_none : NothingFar time r.station

abbrev pub SixtyEight : Type 0
SixtyEight = (s : Station) (calls : List Call) (e : Event) → T (clock e) → code_of s calls e ≡ 0 → Cleared e.time 68 (run s calls (replicate 68 e))
