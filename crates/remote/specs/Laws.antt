-- What kinds 16 to 31 and clock events come to here: they act on `Remote` alone. What they are to the table of calls and to the answer is
-- said in the specs/Far of `station`. The theorems are in proofs/Machine, proofs/Settled, proofs/Stored and proofs/Sound.
use Rattle.std.specs.Prelude.{ℕ, zero, suc, ◌≤◌, ◌<◌, ◌≡◌, Bool, ◌&&◌, ◌||◌, not, T, eqb}
use Rattle.ground.specs.Choice.{when◌then◌else◌}
use Rattle.event.specs.declared.Event.{Event}
use Rattle.event.specs.Kinds.{cfu, cfnr, clock, ActivationInvoke, DeactivationInvoke, InterrogationInvoke, CheckInvoke}
use Rattle.notice.specs.Notice.{marked}
use Rattle.call.specs.Messages.{no_identifier, no_message}
use Rattle.timed.specs.declared.Pending.{Pending}
use Rattle.timed.specs.Timed.{idle, asked, waits, due, Moment, ask, result, reject, tick, pass, after}
use Rattle.remote.specs.declared.Pendings.{Pendings}
use Rattle.remote.specs.declared.Remote.{Remote}
use Rattle.remote.specs.declared.Moved.{Moved}
use Rattle.event.specs.Remote.{activation, deactivation, check, sorts, sort_of, asks, receives, results, answers_ours, of_remote, remote_fields}
use Rattle.remote.specs.Kinds.{length_of, letter_result, letter_error}
use Rattle.remote.specs.Held.{pending_of, kept_for, first_due, remote_holds}
use Rattle.remote.specs.Rules.{its, put, lapse, taken, step}

-- what an event is to the request of one sort
abbrev pub moment_of : Remote → Event → ℕ → ℕ → Moment
moment_of r e identifier sort =
    when clock e then (when eqb (first_due e.time r.pending) sort then tick else pass) else
    when not (of_remote e && remote_fields e && eqb (sort_of e) sort) then pass else
    when asks e then ask identifier else
    when receives e then pass else
    when results e then result e.identifier else
    reject e.identifier

-- the request of each sort is a timed request with the length of its sort: so its laws are those of `timed`
abbrev pub EachTimed : Type 0
EachTimed =
    (r : Remote) (e : Event) (identifier sort : ℕ) → sort < sorts
    → pending_of sort (step r e identifier).remote.pending
    ≡ after (length_of sort) e.time (pending_of sort r.pending) (moment_of r e identifier sort)

-- "T2, T3, T4, T5 in that order": the first that is due is the one before which none is
abbrev pub FirstInOrder : Type 0
FirstInOrder =
    (time : ℕ) (p : Pendings) (sort : ℕ) → sort < sorts → T (due (length_of sort) time (pending_of sort p))
    → ((j : ℕ) → j < sort → T (not (due (length_of j) time (pending_of j p)))) → first_due time p ≡ sort

-- what an event leaves of the request of a sort: the same, none, or one that our user's request of that sort asks with the identifier drawn
pub data Becomes (r : Remote) (e : Event) (identifier sort : ℕ) : Pending → Type 0 where
  stays : Becomes r e identifier sort (pending_of sort r.pending)
  over : Becomes r e identifier sort idle
  begins : T (asks e) → sort_of e ≡ sort → Becomes r e identifier sort (asked identifier e.time)

abbrev pub EachBecomes : Type 0
EachBecomes =
    (r : Remote) (e : Event) (identifier sort : ℕ) → sort < sorts
    → Becomes r e identifier sort (pending_of sort (step r e identifier).remote.pending)

-- while it waits it stays as it was asked
abbrev pub WaitsOn : Type 0
WaitsOn =
    (r : Remote) (e : Event) (identifier sort : ℕ) → sort < sorts → T (waits (pending_of sort r.pending))
    → T (waits (pending_of sort (step r e identifier).remote.pending))
    → pending_of sort (step r e identifier).remote.pending ≡ pending_of sort r.pending

-- how one that waits ends: by a result or error of its sort with its identifier, or as the first that is due
pub data Ends (r : Remote) (e : Event) (sort : ℕ) : Type 0 where
  by_answer : T (answers_ours e) → sort_of e ≡ sort → e.identifier ≡ (pending_of sort r.pending).identifier → Ends r e sort
  by_expiry : T (clock e) → first_due e.time r.pending ≡ sort → T (due (length_of sort) e.time (pending_of sort r.pending)) → Ends r e sort

abbrev pub EndsOnly : Type 0
EndsOnly =
    (r : Remote) (e : Event) (identifier sort : ℕ) → sort < sorts → T (waits (pending_of sort r.pending))
    → T (not (waits (pending_of sort (step r e identifier).remote.pending))) → Ends r e sort

-- a result or error that is taken ends the request of its sort, which bears its identifier; the others, the kept destinations and the marks stay
pub record Settled (r : Remote) (e : Event) (after : Remote) : Type 0 where
  pub waited : T (waits (its r e))
  pub bears : (its r e).identifier ≡ e.identifier
  pub over : its after e ≡ idle
  pub others : (sort : ℕ) → sort < sorts → (sort ≡ sort_of e → ⊥) → pending_of sort after.pending ≡ pending_of sort r.pending
  pub kept : after.kept ≡ r.kept
  pub enabled : after.enabled ≡ r.enabled
  pub allowed : after.allowed ≡ r.allowed

abbrev pub Settles : Type 0
Settles = (r : Remote) (e : Event) (identifier : ℕ) → T (answers_ours e) → T (taken r e) → Settled r e (step r e identifier).remote

-- "kinds 24 to 31 print none": no identifier and no message
pub record Silent (m : Moved) : Type 0 where
  pub message : m.message ≡ no_message
  pub identifier : m.identifier ≡ no_identifier

abbrev pub SettlesSilently : Type 0
SettlesSilently = (r : Remote) (e : Event) (identifier : ℕ) → T (answers_ours e) → T (taken r e) → Silent (step r e identifier)

-- "expiry equal to a reject"; "an expiry of T2 to T5 prints its identifier and no call": the first that is due is over, and nothing is sent
pub record Expired (r : Remote) (sort : ℕ) (m : Moved) : Type 0 where
  pub remote : m.remote ≡ put sort idle r
  pub message : m.message ≡ no_message
  pub identifier : m.identifier ≡ (pending_of sort r.pending).identifier

abbrev pub FirstExpires : Type 0
FirstExpires =
    (r : Remote) (e : Event) (identifier sort : ℕ) → sort < sorts → T (clock e) → first_due e.time r.pending ≡ sort
    → Expired r sort (step r e identifier)

-- "As clause 9.3.4 states, any answer to the check, and T5's expiry, leaves the number valid": its result, its error or reject and its
-- expiry leave the same, the check over and every destination kept
pub record StillValid (r after : Remote) : Type 0 where
  pub same : after ≡ put check idle r
  pub kept : after.kept ≡ r.kept

abbrev pub AnsweredStillValid : Type 0
AnsweredStillValid =
    (r : Remote) (e : Event) (identifier : ℕ) → T (answers_ours e) → sort_of e ≡ check → T (taken r e) → StillValid r (step r e identifier).remote

abbrev pub ExpiredStillValid : Type 0
ExpiredStillValid =
    (r : Remote) (e : Event) (identifier : ℕ) → T (clock e) → first_due e.time r.pending ≡ check → StillValid r (step r e identifier).remote

-- "two marks, remote activation enabled and diversion to us allowed (a fresh station takes both ..)": no event changes them
abbrev pub MarksStay : Type 0
MarksStay =
    (r : Remote) (e : Event) (identifier : ℕ)
    → ((step r e identifier).remote.enabled ≡ r.enabled) × ((step r e identifier).remote.allowed ≡ r.allowed)

-- an activation or deactivation of a type that was answered with a result leaves its destination, or none; any other event leaves what
-- was kept
abbrev pub leaves : ℕ → Event → ℕ → Bool
leaves type e letter =
    receives e && eqb letter letter_result && (eqb (sort_of e) activation || eqb (sort_of e) deactivation) && eqb e.reason type

abbrev pub left_by : ℕ → ℕ → Event → ℕ → ℕ
left_by type before e letter = when leaves type e letter then (when eqb (sort_of e) activation then e.second else 0) else before

-- "keeps at most one destination for each type": what one event leaves of it
abbrev pub LeftByOne : Type 0
LeftByOne =
    (type : ℕ) → cfu ≤ type → type ≤ cfnr → (r : Remote) (e : Event) (identifier : ℕ)
    → kept_for type (step r e identifier).remote.kept ≡ left_by type (kept_for type r.kept) e (step r e identifier).message.letter

-- "A received activation is stored, over any existing one, and answered with a result when enabled, else with a return error."
pub record Stored (r : Remote) (e : Event) (m : Moved) : Type 0 where
  pub result : m.message.letter ≡ letter_result
  pub echo : m.message.identifier ≡ e.identifier
  pub told : m.identifier ≡ e.identifier
  pub here : kept_for e.reason m.remote.kept ≡ e.second
  pub others : (type : ℕ) → cfu ≤ type → type ≤ cfnr → (type ≡ e.reason → ⊥) → kept_for type m.remote.kept ≡ kept_for type r.kept

abbrev pub StoredWhenEnabled : Type 0
StoredWhenEnabled =
    (r : Remote) (e : Event) (identifier : ℕ) → e.kind ≡ ActivationInvoke → T (remote_fields e) → r.enabled ≡ marked → Stored r e (step r e identifier)

pub record Declined (r : Remote) (e : Event) (m : Moved) : Type 0 where
  pub error : m.message.letter ≡ letter_error
  pub echo : m.message.identifier ≡ e.identifier
  pub told : m.identifier ≡ e.identifier
  pub stays : m.remote ≡ r

abbrev pub DeclinedElse : Type 0
DeclinedElse =
    (r : Remote) (e : Event) (identifier : ℕ) → e.kind ≡ ActivationInvoke → T (remote_fields e) → (r.enabled ≡ marked → ⊥) → Declined r e (step r e identifier)

-- "Deactivation and interrogation get an error when none stands, a check when the mark forbids."; else they get a result
abbrev pub DeclinedWhereNone : Type 0
DeclinedWhereNone =
    (r : Remote) (e : Event) (identifier : ℕ) → DeactivationInvoke ≤ e.kind → e.kind ≤ InterrogationInvoke → T (remote_fields e)
    → kept_for e.reason r.kept ≡ 0 → Declined r e (step r e identifier)

abbrev pub DeclinedWhereForbidden : Type 0
DeclinedWhereForbidden =
    (r : Remote) (e : Event) (identifier : ℕ) → e.kind ≡ CheckInvoke → T (remote_fields e) → (r.allowed ≡ marked → ⊥) → Declined r e (step r e identifier)

-- a deactivation leaves none of its type and the others as they were
pub record Removed (r : Remote) (e : Event) (m : Moved) : Type 0 where
  pub result : m.message.letter ≡ letter_result
  pub echo : m.message.identifier ≡ e.identifier
  pub told : m.identifier ≡ e.identifier
  pub here : kept_for e.reason m.remote.kept ≡ 0
  pub others : (type : ℕ) → cfu ≤ type → type ≤ cfnr → (type ≡ e.reason → ⊥) → kept_for type m.remote.kept ≡ kept_for type r.kept

abbrev pub RemovedWhereOne : Type 0
RemovedWhereOne =
    (r : Remote) (e : Event) (identifier : ℕ) → e.kind ≡ DeactivationInvoke → T (remote_fields e) → (kept_for e.reason r.kept ≡ 0 → ⊥)
    → Removed r e (step r e identifier)

-- "the result to kind 22 carries the destination as an argument"; nothing changes by an interrogation or a check
pub record Informed (r : Remote) (e : Event) (destination : ℕ) (m : Moved) : Type 0 where
  pub result : m.message.letter ≡ letter_result
  pub echo : m.message.identifier ≡ e.identifier
  pub told : m.identifier ≡ e.identifier
  pub carries : m.message.destination ≡ destination
  pub stays : m.remote ≡ r

abbrev pub InformedWhereOne : Type 0
InformedWhereOne =
    (r : Remote) (e : Event) (identifier : ℕ) → e.kind ≡ InterrogationInvoke → T (remote_fields e) → (kept_for e.reason r.kept ≡ 0 → ⊥)
    → Informed r e (kept_for e.reason r.kept) (step r e identifier)

abbrev pub AllowedWhereMarked : Type 0
AllowedWhereMarked =
    (r : Remote) (e : Event) (identifier : ℕ) → e.kind ≡ CheckInvoke → T (remote_fields e) → r.allowed ≡ marked → Informed r e 0 (step r e identifier)

-- what is held stays sound; a request's identifier is not 0
abbrev pub StepHolds : Type 0
StepHolds =
    (last : ℕ) (r : Remote) (e : Event) (identifier : ℕ) → last ≤ e.time → (identifier ≡ 0 → ⊥) → T (remote_holds last r)
    → T (remote_holds e.time (step r e identifier).remote)

-- four clock events with one time leave none of the four due
unfoldable pub lapses : ℕ → ℕ → Remote → Remote
lapses zero time r = r
lapses (suc n) time r = lapses n time (lapse time r).remote

abbrev pub FourClear : Type 0
FourClear =
    (time : ℕ) (r : Remote) (sort : ℕ) → sort < sorts → T (not (due (length_of sort) time (pending_of sort (lapses sorts time r).pending)))
