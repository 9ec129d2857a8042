-- The station's own requests, of the four sorts, over the whole station: how one begins, how it ends, and what a clock event does to it.
-- The theorems are in proofs/FarRequests.
use Rattle.std.specs.Prelude.{ℕ, ◌<◌, ◌≡◌, not, List, T}
use Rattle.event.specs.declared.Event.{Event}
use Rattle.event.specs.Kinds.{clock}
use Rattle.event.specs.Remote.{sorts, sort_of, asks, answers_ours}
use Rattle.identifier.specs.Identifier.{after}
use Rattle.timed.specs.Timed.{idle, asked}
use Rattle.call.specs.declared.Call.{Call}
use Rattle.call.specs.Messages.{nothing, one}
use Rattle.remote.specs.Held.{pending_of}
use Rattle.remote.specs.Rules.{put, invoke_of}
use Rattle.remote.specs.Laws as far
use Rattle.station.specs.declared.Station.{Station}
use Rattle.station.specs.Station.{no_call, empty_answer}
use Rattle.station.specs.Table.{identifier_for}
use Rattle.station.specs.Step.{Outcome, step}
use Rattle.station.specs.Demand1.{code_of}
use Rattle.station.specs.Demand2.{FarOpen, Foreign, NothingDue, far_due}

-- a request of our user's: it waits with the identifier drawn, which the answer and the one message have; "the one after it is next"
pub record FarAsked (s : Station) (calls : List Call) (e : Event) (o : Outcome) : Type 0 where
  pub request : pending_of (sort_of e) o.station.remote.pending ≡ asked (identifier_for s calls) e.time
  pub next : o.station.next ≡ after (identifier_for s calls)
  pub identifier : o.answer.identifier ≡ identifier_for s calls
  pub sent : o.answer.sent ≡ one (invoke_of e (identifier_for s calls))

abbrev pub FarAsks : Type 0
FarAsks = (s : Station) (calls : List Call) (e : Event) → T (asks e) → code_of s calls e ≡ 0 → FarAsked s calls e (step s calls e)

-- an open request of a sort begins by a done request of our user's of that sort only, with the identifier that was drawn
pub record FarBegun (s : Station) (calls : List Call) (e : Event) (sort identifier : ℕ) : Type 0 where
  pub done : code_of s calls e ≡ 0
  pub kind : T (asks e)
  pub here : sort_of e ≡ sort
  pub drawn : identifier ≡ identifier_for s calls

abbrev pub FarBeginsOnly : Type 0
FarBeginsOnly =
    (s : Station) (calls : List Call) (e : Event) (sort identifier : ℕ) → (FarOpen s sort identifier → ⊥)
    → FarOpen (step s calls e).station sort identifier → FarBegun s calls e sort identifier

-- a done result, or error or reject, ends the request of its sort with its identifier and leaves all else; "kinds 24 to 31 print none"
pub record FarSettled (s : Station) (e : Event) (o : Outcome) : Type 0 where
  pub settled : far.Settled s.remote e o.station.remote
  pub answer : o.answer ≡ empty_answer 0

abbrev pub FarSettles : Type 0
FarSettles = (s : Station) (calls : List Call) (e : Event) → T (answers_ours e) → code_of s calls e ≡ 0 → FarSettled s e (step s calls e)

-- a late or foreign one, for which no request of its sort with its identifier is open, is refused and changes nothing
abbrev pub FarForeign : Type 0
FarForeign =
    (s : Station) (calls : List Call) (e : Event) → T (answers_ours e) → (FarOpen s (sort_of e) e.identifier → ⊥)
    → Foreign s calls (step s calls e)

-- an open request of a sort ends by a done result or error of its sort with its identifier only, or by a done clock event as the first of
-- T2 to T5 that is due, where no T1 request is
pub record FarEnded (s : Station) (calls : List Call) (e : Event) (sort : ℕ) : Type 0 where
  pub done : code_of s calls e ≡ 0
  pub way : far.Ends s.remote e sort
  pub near : T (clock e) → NothingDue e.time calls

abbrev pub FarEndsOnly : Type 0
FarEndsOnly =
    (s : Station) (calls : List Call) (e : Event) (sort identifier : ℕ) → FarOpen s sort identifier
    → (FarOpen (step s calls e).station sort identifier → ⊥) → FarEnded s calls e sort

-- "T2, T3, T4, T5 in that order": the first that is due
pub record FirstFar (time : ℕ) (s : Station) (sort : ℕ) : Type 0 where
  pub there : sort < sorts
  pub due : T (far_due time s sort)
  pub earlier : (j : ℕ) → j < sort → T (not (far_due time s j))

-- "Clock events end T1 requests first, then T2 to T5"; "an expiry of T2 to T5 prints its identifier and no call"
pub record FarExpires (s : Station) (before : List Call) (sort : ℕ) (o : Outcome) : Type 0 where
  pub call : o.answer.call ≡ no_call
  pub identifier : o.answer.identifier ≡ (pending_of sort s.remote.pending).identifier
  pub sent : o.answer.sent ≡ nothing
  pub remote : o.station.remote ≡ put sort idle s.remote
  pub calls : o.calls ≡ before

abbrev pub ClockEndsFar : Type 0
ClockEndsFar =
    (s : Station) (calls : List Call) (e : Event) (sort : ℕ) → T (clock e) → code_of s calls e ≡ 0 → NothingDue e.time calls
    → FirstFar e.time s sort → FarExpires s calls sort (step s calls e)
