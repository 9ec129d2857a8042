-- Kinds 16 to 31 over the whole station: what they leave, their numbers, their answers, and what is kept after a list of events. The
-- theorems are in proofs/Far; what they do to the part of the station that is theirs is said in the specs/Laws of `remote`, how their
-- requests begin and end in FarRequests.
use Rattle.std.specs.Prelude.{ℕ, ◌≤◌, ◌≡◌, ◌&&◌, not, List, [], ◌∷◌, T, eqb}
use Rattle.ground.specs.Choice.{when◌then◌else◌}
use Rattle.event.specs.declared.Event.{Event}
use Rattle.event.specs.Kinds.{cfu, cfnr, clock}
use Rattle.event.specs.Remote.{receives, of_remote, remote_fields}
use Rattle.notice.specs.Notice.{no_notice, no_number}
use Rattle.call.specs.Messages.{no_counter, no_message}
use Rattle.call.specs.declared.Call.{Call}
use Rattle.remote.specs.declared.Remote.{Remote}
use Rattle.remote.specs.Held.{kept_for}
use Rattle.remote.specs.Rules.{remote_refusal}
use Rattle.remote.specs.Laws.{left_by}
use Rattle.station.specs.declared.Station.{Station}
use Rattle.station.specs.declared.Answer.{Answer}
use Rattle.station.specs.Station.{no_call}
use Rattle.station.specs.Table.{sound}
use Rattle.station.specs.Step.{far_moved, far_done, on_call, step, TurnTaken, turns, Ran, run_on}
use Rattle.station.specs.Demand1.{code_of}

-- an event of these kinds leaves the table of calls as it was
abbrev pub FarLeaves : Type 0
FarLeaves = (s : Station) (calls : List Call) (e : Event) → T (of_remote e) → (step s calls e).calls ≡ calls

-- an event of kinds 1 to 15 leaves the marks and the kept destinations, and all but a clock event leave the pending requests too
pub record Leaves (before after : Remote) : Type 0 where
  pub kept : after.kept ≡ before.kept
  pub enabled : after.enabled ≡ before.enabled
  pub allowed : after.allowed ≡ before.allowed

abbrev pub NearLeaves : Type 0
NearLeaves =
    (s : Station) (calls : List Call) (e : Event) → T (not (of_remote e))
    → Leaves s.remote (step s calls e).station.remote × (T (not (clock e)) → (step s calls e).station.remote ≡ s.remote)

-- what the station holds for them changes by a done event that acts on no record, as `remote` says, and by no other
abbrev pub FarSteps : Type 0
FarSteps =
    (s : Station) (calls : List Call) (e : Event)
    → (step s calls e).station.remote ≡ (when eqb (code_of s calls e) 0 && not (on_call calls e) then (far_moved s calls e).remote else s.remote)

-- on a sound table, in time and with its fields as they should be, such an event has the number 11, 6 or 9, or is done
abbrev pub FarNumbers : Type 0
FarNumbers =
    (s : Station) (calls : List Call) (e : Event) → T (sound s calls) → s.last ≤ e.time → T (of_remote e) → T (remote_fields e)
    → code_of s calls e ≡ remote_refusal s.remote e

-- one that is done does what `remote` says, and nothing else
abbrev pub FarDoes : Type 0
FarDoes =
    (s : Station) (calls : List Call) (e : Event) → T (of_remote e) → code_of s calls e ≡ 0
    → step s calls e ≡ far_done s calls e (far_moved s calls e)

-- "no call or counter in the answer"; one message at most, and nothing for the caller: "Kind 26's number .. is not in the number column"
pub record FarSaid (a : Answer) : Type 0 where
  pub call : a.call ≡ no_call
  pub second : a.sent.second ≡ no_message
  pub third : a.sent.third ≡ no_message
  pub notice : a.notice ≡ no_notice
  pub number : a.number ≡ no_number
  pub counter : a.counter ≡ no_counter

abbrev pub FarSays : Type 0
FarSays = (s : Station) (calls : List Call) (e : Event) → T (of_remote e) → FarSaid (step s calls e).answer

-- "Answers echo the identifier.": a received invoke's, whatever it is, in the message and in the answer
abbrev pub FarEchoed : Type 0
FarEchoed =
    (s : Station) (calls : List Call) (e : Event)
    → T (receives e)
    → code_of s calls e ≡ 0
    → ((step s calls e).answer.identifier ≡ e.identifier) × ((step s calls e).answer.sent.first.identifier ≡ e.identifier)

-- what the last accepted activation or deactivation of a type left; where there is none, what was kept before
unfoldable pub last_left : ℕ → ℕ → List TurnTaken → ℕ
last_left type before [] = before
last_left type before (t ∷ rest) = last_left type (left_by type before t.event t.outcome.answer.sent.first.letter) rest

-- what is kept after a list of events is what the last accepted one of its type left
abbrev pub KeepsLast : Type 0
KeepsLast =
    (type : ℕ) → cfu ≤ type → type ≤ cfnr → (r : Ran) (events : List Event)
    → kept_for type (run_on r events).station.remote.kept
    ≡ last_left type (kept_for type r.station.remote.kept) (turns r.station r.calls events)
