-- Demand 3, one event and one record: two runs, the second of them stricter. Each relation builds the stricter value from the
-- other, so that what they share is the same by construction.
use Rattle.std.specs.Prelude.{ℕ, ◌≤◌, ◌<◌, ◌≡◌, ◌⊎◌}
use Rattle.event.specs.declared.Event.{Event}
use Rattle.event.specs.Kinds.{with_number, allowed, forbidden, ReroutingInvoke, Dli1Received, OutgoingMessage}
use Rattle.event.specs.Fields.{option_is, flag_is}
use Rattle.notice.specs.declared.History.{History}
use Rattle.notice.specs.Notice.{no_notice, no_number}
use Rattle.notice.specs.Stricter.{ShownOnlyWhere, StricterHistory}
use Rattle.waits.specs.declared.Waits.{Waits}
use Rattle.waits.specs.Laws.{StricterWaits}
use Rattle.call.specs.declared.Call.{Call}
use Rattle.call.specs.declared.Effect.{Effect}
use Rattle.call.specs.Fields.{waiting_is, history_is}

-- "options on received invokes (kinds 12, 13) become stricter or presentation marks (kind 14) turn from allowed to forbidden"
pub data StricterEvent : Event → Event → Type 0 where
  same : (e : Event) → StricterEvent e e
  lower : (e : Event) (option : ℕ) → (e.kind ≡ ReroutingInvoke) ⊎ (e.kind ≡ Dli1Received) → option < e.option → e.option ≤ with_number → StricterEvent e (option_is option e)
  hide : (e : Event) → e.kind ≡ OutgoingMessage → StricterEvent (flag_is allowed e) (flag_is forbidden e)

-- all fields equal but the options that wait with leg 2 and the history's strictest option and marks
pub data StricterCall : Call → Call → Type 0 where
  stricter : (c : Call) (waiting : Waits) (history : History) → StricterWaits c.waiting waiting → StricterHistory c.history history
      → StricterCall c (waiting_is waiting (history_is history c))

-- the same messages with their arguments, the same identifier and counter; a notice or a number only where the other has it
pub record StricterEffect (x x' : Effect) : Type 0 where
  pub call : StricterCall x.call x'.call
  pub sent : x'.sent ≡ x.sent
  pub notice : ShownOnlyWhere no_notice x.notice x'.notice
  pub number : ShownOnlyWhere no_number x.number x'.number
  pub identifier : x'.identifier ≡ x.identifier
  pub counter : x'.counter ≡ x.counter
