-- Over the whole list of DLI1 and DLI3 that a call took account of, a number is shown exactly when every option so far is 2,
-- every DLI3 so far is allowed and none was shown since the last cfnr DLI1, and a notice is given exactly as the sentences for
-- the first and for later ones say: over a run. Which DLI1 and DLI3 an event brings is `tells` of call's specs/Told; what they
-- give the caller is said of the list alone, by `notices` and `shows` of notice's specs/Whole. What leg 2's answer, or a release of leg 1, hands
-- over is exactly what was accepted since Invoked began, in order, none twice and none lost; what is dropped never counts. The theorems are in proofs/Told.
use Rattle.std.specs.Prelude.{ℕ, ◌≤◌, ◌≡◌, ◌&&◌, List, [], ◌∷◌, T, eqb, replicate}
use Rattle.ground.specs.Choice.{when◌then◌else◌}
use Rattle.event.specs.declared.Event.{Event}
use Rattle.notice.specs.declared.Dli1.{Dli1}
use Rattle.notice.specs.Whole.{Told}
use Rattle.call.specs.declared.Call.{Call}
use Rattle.call.specs.Record.{free_call}
use Rattle.call.specs.Told.{tells, list_after, accepted_after, Remembers, Learns, waiting_of, GoesBy}
use Rattle.station.specs.declared.Station.{Station}
use Rattle.station.specs.Station.{fresh_ok, fresh_station}
use Rattle.station.specs.Table.{at, sound}
use Rattle.station.specs.Step.{TurnTaken, place_in, turns}
use Rattle.station.specs.Demand3.{acts_in}

-- the lists of the call in record i: of what it took account of, the latest first, and of the DLI1s accepted since Invoked began, in order
pub record Lists : Type 0 where
  pub told : ℕ → List Told
  pub accepted : ℕ → List Dli1

-- what an event brings to the CDO of the call that it acts on: nothing if it is refused
abbrev pub news : Lists → TurnTaken → List Told
news l t = when acts_in t then tells (l.accepted (place_in t)) (at t.calls (place_in t)) t.event else []

-- the lists after an event: at its place the list goes on, begins anew with an open, and ends where the record is free; what is accepted
-- waits while Invoked lasts
abbrev pub lists_after : Lists → TurnTaken → Lists
lists_after l t = record {
  told = λ i.
      when acts_in t && eqb i (place_in t) then list_after (l.told i) (l.accepted i) (at t.calls i) t.event (at t.outcome.calls i) else
      l.told i;
  accepted = λ i.
      when acts_in t && eqb i (place_in t) then accepted_after (l.accepted i) (at t.calls i) t.event else
      l.accepted i;
}

-- each record's history is that of its list, and what waits in it is what was accepted
abbrev pub Fits : Lists → List Call → Type 0
Fits l calls = (i : ℕ) → Remembers (l.told i) (at calls i).history × (waiting_of (at calls i) ≡ l.accepted i)

-- one turn, with the lists before it
pub record ByLists (l : Lists) (t : TurnTaken) : Type 0 where
  -- the answer's notice and number are as the list of its call says, and none where the event brings nothing
  pub learns : Learns (l.told (place_in t)) (news l t) t.outcome.answer.notice t.outcome.answer.number
  -- what an event on a call in Invoked sends, and the party that leg 2 becomes, go by what was accepted
  pub goes : T (acts_in t)
      → GoesBy (l.accepted (place_in t)) (at t.calls (place_in t)) t.event t.outcome.answer.sent (at t.outcome.calls (place_in t))
  -- what is stored after it is the history of the lists after it, and what waits is what was accepted
  pub fits : Fits (lists_after l t) t.outcome.calls

-- each turn of a run, with the lists that those before it left
pub data EachByLists : Lists → List TurnTaken → Type 0 where
  over : {l : Lists} → EachByLists l []
  onward : {l : Lists} {t : TurnTaken} {ts : List TurnTaken} → ByLists l t → EachByLists (lists_after l t) ts → EachByLists l (t ∷ ts)

-- from a sound table, with lists that fit it
abbrev pub RunsByLists : Type 0
RunsByLists =
    (l : Lists) (s : Station) (calls : List Call) (es : List Event) → T (sound s calls) → Fits l calls
    → EachByLists l (turns s calls es)

-- at first no call was told anything, and nothing waits
abbrev pub nothing_told : Lists
nothing_told = record { told = λ i. []; accepted = λ i. [] }

-- "Fresh means last time 0, next identifier 65,535", with 1 to 64 free records
abbrev pub FreshByLists : Type 0
FreshByLists =
    (limit enabled allowed n : ℕ) (es : List Event) → T (fresh_ok limit enabled allowed) → 1 ≤ n → n ≤ 64
    → EachByLists nothing_told (turns (fresh_station limit enabled allowed) (replicate n free_call) es)

-- every sound table has lists that fit it
pub record Fitting (calls : List Call) : Type 0 where
  pub lists : Lists
  pub fits : Fits lists calls

abbrev pub SoundFits : Type 0
SoundFits = (s : Station) (calls : List Call) → T (sound s calls) → Fitting calls
