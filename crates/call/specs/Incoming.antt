-- "Rules for incoming calls": what an event that is taken does. "Messages of incoming calls bear leg 1."
use Rattle.std.specs.Prelude.{ℕ, ◌+◌, Bool, eqb}
use Rattle.ground.specs.Choice.{when◌then◌else◌}
use Rattle.event.specs.declared.Event.{Event}
use Rattle.event.specs.Kinds.{allowed, OpenWithDli2, UserAlerted, UserAnswers, DivertCall, ReroutingResult, ReroutingError, DivertedLegFailed}
use Rattle.notice.specs.Notice.{no_notice, no_number, unmarked, marked, no_history}
use Rattle.timed.specs.declared.Pending.{Pending}
use Rattle.timed.specs.Timed as timed
use Rattle.waits.specs.Waits.{no_waits}
use Rattle.call.specs.declared.Call.{Call}
use Rattle.call.specs.declared.Message.{Message}
use Rattle.call.specs.declared.Effect.{Effect}
use Rattle.call.specs.Record.{incoming, Proceeding, Received, Active, Idle, CdfNone, Wait, CdfDone, request_of, wait, undiverted, free_call}
use Rattle.call.specs.Fields.{basic_is, cds_is, cdf_is, granted_is, identifier_is, reason_is, start_is}
use Rattle.call.specs.Messages.{no_counter, letter_i, alerting_on, connect_on, connect_with_dli3, one, nothing, sending, silent}

-- "2 open incoming", "3 open incoming with divertingLegInformation2 (DLI2)": "An open starts in Proceeding, services Idle, kind 3 in CDF Wait (its
-- reason isn't kept), and sends nothing"
abbrev pub opened_incoming : Event → Call
opened_incoming e = record {
  direction = incoming;
  basic = Proceeding;
  cdo = 0;
  cdr = 0;
  cds = Idle;
  cdf = when eqb e.kind OpenWithDli2 then Wait else CdfNone;
  granted = unmarked;
  counter = e.counter;
  start = 0;
  party = 0;
  history = no_history;
  own = e.first;
  diverting = e.second;
  original = e.third;
  identifier = 0;
  reason = 0;
  waiting = no_waits;
}

-- "4: Proceeding becomes Received, ALERTING."
abbrev pub alerted : Call → Effect
alerted c = sending (basic_is Received c) (one (alerting_on 1))

-- another request in a record
abbrev pub request_is : Pending → Call → Call
request_is p c = cds_is p.wait (identifier_is p.identifier (start_is p.start c))

-- "8: Idle, not granted": a request or grant with all that belongs to it is gone
abbrev pub idle : Call → Call
idle c = granted_is unmarked (reason_is 0 (request_is timed.idle c))

-- "DLI3 with the flag, and the own number only if allowed"
abbrev pub own_if_allowed : Call → Event → ℕ
own_if_allowed c e = when eqb e.flag allowed then c.own else no_number

-- "5: Proceeding or Received becomes Active, CONNECT; in Wait it carries DLI3 .., and CDF is done. .. Kind 5 ends an open
-- cfnr request or grant (ours)."
abbrev pub answered : Call → Event → Effect
answered c e =
    when wait c then sending (cdf_is CdfDone (basic_is Active (idle c))) (one (connect_with_dli3 1 e.flag (own_if_allowed c e))) else
    sending (basic_is Active (idle c)) (one (connect_on 1))

-- "counter plus 1"
abbrev pub counter_sent : Call → ℕ
counter_sent c = c.counter + 1

-- "as original called number 0 if the sent counter is 1, else the stored original, or the diverting number if that is 0 (ours)"
abbrev pub original_sent : Call → ℕ
original_sent c =
    when undiverted c then 0 else
    when eqb c.original 0 then c.diverting else
    c.original

-- "Sends the callRerouting invoke with the event's reason, option and destination, counter plus 1, own number as last
-- rerouting number, and as original called number .."
abbrev pub invoke_of : Call → Event → ℕ → Message
invoke_of c e identifier = record {
  letter = letter_i;
  leg = 1;
  reason = e.reason;
  option = e.option;
  counter = counter_sent c;
  flag = 0;
  identifier = identifier;
  destination = e.second;
  diverting = c.own;
  original = original_sent c;
  number = 0;
}

-- "Enters Requested, starts T1."
abbrev pub asking : Call → Event → ℕ → Call
asking c e identifier = reason_is e.reason (request_is (timed.asked identifier e.time) c)

-- "6: .."
abbrev pub diverted : Call → Event → ℕ → Effect
diverted c e identifier = record {
  call = asking c e identifier;
  sent = one (invoke_of c e identifier);
  notice = no_notice;
  number = no_number;
  identifier = identifier;
  counter = counter_sent c;
}

-- "7: Idle, granted."
abbrev pub grant : Call → Call
grant c = granted_is marked (request_is timed.idle c)

-- "of the records Requested with time minus start at least 10,000"
abbrev pub due : ℕ → Call → Bool
due time c = timed.due timed.t1 time (request_of c)

-- "the lowest ends as by a reject and the answer names call and identifier"
abbrev pub expired : Call → Effect
expired c = record {
  call = idle c;
  sent = nothing;
  notice = no_notice;
  number = no_number;
  identifier = c.identifier;
  counter = no_counter;
}

-- "4" to "9" and "15"; "9: .. clears it"; "15 nothing; the record is free and its request ended"
unfoldable pub act_incoming : Call → Event → ℕ → Effect
act_incoming c e identifier =
    when eqb e.kind UserAlerted then alerted c else
    when eqb e.kind UserAnswers then answered c e else
    when eqb e.kind DivertCall then diverted c e identifier else
    when eqb e.kind ReroutingResult then silent (grant c) else
    when eqb e.kind ReroutingError then silent (idle c) else
    when eqb e.kind DivertedLegFailed then silent (idle c) else
    silent free_call
