-- Demand 1: the number of an answer is the page's, and what a refusal and a done event leave. The theorems are in
-- proofs/Demand1 and There. That every event has an answer is the contract of `whipsail::whipsail_lent_step`, which ends on every input
-- and gives what `step` gives here.
use Rattle.std.specs.Prelude.{ℕ, ◌≤◌, ◌≡◌, Bool, not, ◌↔◌, ◌⊎◌, List, [], ◌∷◌, T}
use Rattle.event.specs.declared.Event.{Event}
use Rattle.event.specs.Kinds.{answers_request}
use Rattle.event.specs.WellMade.{well_made}
use Rattle.call.specs.declared.Call.{Call}
use Rattle.call.specs.State.{state_forbids, Taker, NoneTakes}
use Rattle.remote.specs.Rules.{none_waits}
use Rattle.station.specs.declared.Station.{Station}
use Rattle.station.specs.Station.{fresh_of, short_form, empty_answer}
use Rattle.station.specs.Table.{at, sound}
use Rattle.station.specs.Refusals.{not_sound, early, ill_made, no_such_call, not_in_basic_state, not_taken, foreign_answer, over_limit, no_free_record, pending_already}
use Rattle.station.specs.Step.{Outcome, step, step_on_sound}

-- "tested in this order": the numbers with their conditions; by the reading of Eight 10 and 11 "stand where 5 stood, before 6, 7
-- and 8"
abbrev pub conditions : Station → List Call → Event → List (ℕ × Bool)
conditions s calls e =
    (1, not_sound s calls)
    ∷ (2, early s e)
    ∷ (3, ill_made e)
    ∷ (4, no_such_call calls e)
    ∷ (10, not_in_basic_state calls e)
    ∷ (11, not_taken s calls e)
    ∷ (6, foreign_answer s (at calls e.call) e)
    ∷ (7, over_limit s (at calls e.call) e)
    ∷ (8, no_free_record calls e)
    ∷ (9, pending_already s e)
    ∷ []

-- the number of the first condition that holds; 0 where none does
abbrev pub Given : List (ℕ × Bool) → ℕ → Type 0
Given [] number = number ≡ 0
Given ((n, holds) ∷ rest) number = (T holds × (number ≡ n)) ⊎ (T (not holds) × Given rest number)

-- the number of the answer to one event
abbrev pub code_of : Station → List Call → Event → ℕ
code_of s calls e = (step s calls e).answer.code

-- "Given exactly when"
abbrev pub NumberExact : Type 0
NumberExact = (s : Station) (calls : List Call) (e : Event) (number : ℕ) → code_of s calls e ≡ number ↔ Given (conditions s calls e) number

-- an event that gets none of the numbers 1 to 4
pub record PastFour (s : Station) (calls : List Call) (e : Event) : Type 0 where
  pub whole : T (sound s calls)
  pub timely : s.last ≤ e.time
  pub made : T (well_made e)
  pub there : T (not (no_such_call calls e))

-- document 02, Eight: "10 when no sound record in that basic state takes the event"
abbrev pub TenExact : Type 0
TenExact =
    (s : Station) (calls : List Call) (e : Event) → code_of s calls e ≡ 10 ↔ (PastFour s calls e × NoneTakes s.last (at calls e.call) e)

-- "11 when only a service state (CDS, CDR, CDO, a grant, a missing leg 2) forbids it": a sound record in that basic state takes the event, and
-- the call does not; "in Seven its case becomes 11"
abbrev pub ElevenExact : Type 0
ElevenExact =
    (s : Station) (calls : List Call) (e : Event)
    → code_of s calls e ≡ 11
    ↔ (PastFour s calls e × ((T (state_forbids (at calls e.call) e) × Taker s.last (at calls e.call) e) ⊎ T (none_waits s.remote e)))

-- "Split number 5": behind 1 to 4 one of the two is given exactly where the state rules, or what is pending, do not take the event
abbrev pub SplitExact : Type 0
SplitExact =
    (s : Station) (calls : List Call) (e : Event)
    → ((code_of s calls e ≡ 10) ⊎ (code_of s calls e ≡ 11)) ↔ (PastFour s calls e × T (not_taken s calls e))

-- "5 is no longer given"
abbrev pub NeverFive : Type 0
NeverFive = (s : Station) (calls : List Call) (e : Event) → code_of s calls e ≡ 5 → ⊥

-- document 02, Three: "a kind 7 or 8 event with identifier 0 is 3", whatever call it names: 3 is tested before 4
abbrev pub ZeroIsThree : Type 0
ZeroIsThree =
    (s : Station) (calls : List Call) (e : Event) → T (sound s calls) → s.last ≤ e.time → T (answers_request e) → e.identifier ≡ 0
    → code_of s calls e ≡ 3

-- "A refusal's answer is its number and otherwise empty; records and station stay."
pub record Refusal (s : Station) (before : List Call) (o : Outcome) : Type 0 where
  pub answer : o.answer ≡ empty_answer o.answer.code
  pub station : o.station ≡ s
  pub calls : o.calls ≡ before

abbrev pub RefusalStays : Type 0
RefusalStays = (s : Station) (calls : List Call) (e : Event) → (code_of s calls e ≡ 0 → ⊥) → Refusal s calls (step s calls e)

-- "A done event makes its time the last time."; the limit stays, and the two marks, which "a fresh station takes"
pub record Timed (s : Station) (e : Event) (o : Outcome) : Type 0 where
  pub last : o.station.last ≡ e.time
  pub limit : o.station.limit ≡ s.limit
  pub enabled : o.station.remote.enabled ≡ s.remote.enabled
  pub allowed : o.station.remote.allowed ≡ s.remote.allowed

abbrev pub DoneTimed : Type 0
DoneTimed = (s : Station) (calls : List Call) (e : Event) → code_of s calls e ≡ 0 → Timed s e (step s calls e)

-- where the table was found sound, the test for it need not be made again
abbrev pub OnSound : Type 0
OnSound = (s : Station) (calls : List Call) (e : Event) → T (sound s calls) → step_on_sound s calls e ≡ step s calls e

-- document 02, Four: "The short form of a fresh station shall use limit 5."; Seven: "short form ..: both set"
abbrev pub ShortIsFive : Type 0
ShortIsFive = fresh_of 5 1 1 ≡ record { code = 0; station = short_form }
