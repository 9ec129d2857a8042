-- What an event of kinds 16 to 31 is refused with, and what it does where it is taken; what a clock event does to what waits here.
use Rattle.std.specs.Prelude.{ℕ, Bool, ◌&&◌, not, eqb}
use Rattle.ground.specs.Choice.{when◌then◌else◌}
use Rattle.event.specs.declared.Event.{Event}
use Rattle.notice.specs.Notice.{marked}
use Rattle.call.specs.declared.Message.{Message}
use Rattle.call.specs.Messages.{no_identifier, no_message}
use Rattle.timed.specs.declared.Pending.{Pending}
use Rattle.timed.specs.Timed.{idle, asked, waits}
use Rattle.remote.specs.declared.Kept.{Kept}
use Rattle.remote.specs.declared.Remote.{Remote}
use Rattle.remote.specs.declared.Moved.{Moved}
use Rattle.event.specs.Kinds.{clock}
use Rattle.event.specs.Remote.{activation, deactivation, interrogation, check, sort_of, asks, receives, answers_ours, of_remote, remote_fields}
use Rattle.remote.specs.Kinds.{letter_of, letter_result, letter_error, no_leg}
use Rattle.remote.specs.Held.{pending_of, with_pending, kept_for, with_kept, pending_is, kept_is, no_sort, first_due}

-- the request of the event's sort
abbrev pub its : Remote → Event → Pending
its r e = pending_of (sort_of e) r.pending

-- "16 to 19 with one of the same sort pending is 9"
abbrev pub already_asked : Remote → Event → Bool
already_asked r e = asks e && waits (its r e)

-- "a result or error with none pending is 5"; Eight: "in Seven its case becomes 11"
abbrev pub none_waits : Remote → Event → Bool
none_waits r e = answers_ours e && not (waits (its r e))

-- "with another identifier 6"
abbrev pub other_answer : Remote → Event → Bool
other_answer r e = answers_ours e && not (eqb e.identifier (its r e).identifier)

-- the three in the order of their tests; an event's kind has 11 and 6, or 9, or none of them
unfoldable pub remote_refusal : Remote → Event → ℕ
remote_refusal r e =
    when none_waits r e then 11 else
    when other_answer r e then 6 else
    when already_asked r e then 9 else
    0

-- the request of a sort ends or begins; nothing else changes
abbrev pub put : ℕ → Pending → Remote → Remote
put sort p r = pending_is (with_pending sort p r.pending) r

-- "`panelrun` prints a, d, i, c for the invokes .., no leg": the type, the far panel, the destination and the identifier drawn
abbrev pub invoke_of : Event → ℕ → Message
invoke_of e identifier = record {
  letter = letter_of (sort_of e);
  leg = no_leg;
  reason = e.reason;
  option = 0;
  counter = 0;
  flag = 0;
  identifier = identifier;
  destination = e.second;
  diverting = 0;
  original = 0;
  number = e.first;
}

-- "r and e for answers": "Answers echo the identifier"; "the result to kind 22 carries the destination as an argument"
abbrev pub echo_of : ℕ → Event → ℕ → Message
echo_of letter e destination = record {
  letter = letter;
  leg = no_leg;
  reason = 0;
  option = 0;
  counter = 0;
  flag = 0;
  identifier = e.identifier;
  destination = destination;
  diverting = 0;
  original = 0;
  number = 0;
}

-- 16 to 19: the request waits with the identifier drawn, and its timer starts
abbrev pub asking : Remote → Event → ℕ → Moved
asking r e identifier = record {
  remote = put (sort_of e) (asked identifier e.time) r;
  message = invoke_of e identifier;
  identifier = identifier;
}

-- the destination of the event's type
abbrev pub stands : Remote → Event → ℕ
stands r e = kept_for e.reason r.kept

-- "A received activation is stored .. when enabled, else .. a return error. Deactivation and interrogation get an error when none
-- stands, a check when the mark forbids."
abbrev pub accepts : Remote → Event → Bool
accepts r e =
    when eqb (sort_of e) activation then eqb r.enabled marked else
    when eqb (sort_of e) check then eqb r.allowed marked else
    not (eqb (stands r e) 0)

-- "stored, over any existing one"; a deactivation leaves none
abbrev pub kept_after : Remote → Event → Kept
kept_after r e =
    when eqb (sort_of e) activation then with_kept e.reason e.second r.kept else
    when eqb (sort_of e) deactivation then with_kept e.reason 0 r.kept else
    r.kept

abbrev pub told : Remote → Event → ℕ
told r e = when eqb (sort_of e) interrogation then stands r e else 0

-- 20 to 23: answered at once
abbrev pub agreed : Remote → Event → Moved
agreed r e = record {
  remote = kept_is (kept_after r e) r;
  message = echo_of letter_result e (told r e);
  identifier = e.identifier;
}

abbrev pub declined : Remote → Event → Moved
declined r e = record { remote = r; message = echo_of letter_error e 0; identifier = e.identifier }

abbrev pub received : Remote → Event → Moved
received r e = when accepts r e then agreed r e else declined r e

-- the request of a sort is over: by its result, its error or reject, or its expiry, which equals a reject
abbrev pub over : Remote → ℕ → ℕ → Moved
over r sort identifier = record { remote = put sort idle r; message = no_message; identifier = identifier }

-- kinds 16 to 31, taken; "kinds 24 to 31 print none": no identifier
unfoldable pub act_remote : Remote → Event → ℕ → Moved
act_remote r e identifier =
    when asks e then asking r e identifier else
    when receives e then received r e else
    over r (sort_of e) no_identifier

-- nothing changes and nothing is sent
abbrev pub unmoved : Remote → Moved
unmoved r = record { remote = r; message = no_message; identifier = no_identifier }

-- "an expiry of T2 to T5 prints its identifier and no call"
abbrev pub expired : Remote → ℕ → Moved
expired r sort = over r sort (pending_of sort r.pending).identifier

-- a clock event, where no T1 request is due: the first that is due ends; with none due nothing changes
abbrev pub lapse_of : Remote → ℕ → Moved
lapse_of r sort = when eqb sort no_sort then unmoved r else expired r sort

unfoldable pub lapse : ℕ → Remote → Moved
lapse time r = lapse_of r (first_due time r.pending)

-- one event, here: a clock event (where no T1 request is due) ends the first that is due; one of kinds 16 to 31 acts where its fields and
-- the state take it; any other, and a refused one, changes nothing
abbrev pub taken : Remote → Event → Bool
taken r e = of_remote e && remote_fields e && eqb (remote_refusal r e) 0

unfoldable pub step : Remote → Event → ℕ → Moved
step r e identifier =
    when clock e then lapse e.time r else
    when taken r e then act_remote r e identifier else
    unmoved r
