-- "Rules for outgoing calls": what an event that is taken does.
use Rattle.std.specs.Prelude.{ℕ, Bool, ◌&&◌, ◌||◌, not, eqb}
use Rattle.ground.specs.Choice.{when◌then◌else◌}
use Rattle.event.specs.declared.Event.{Event}
use Rattle.event.specs.Kinds.{cfu, cfb, cfnr, alerting, connect, release_complete, on_leg2, ReroutingInvoke, Dli1Received}
use Rattle.notice.specs.declared.Dli1.{Dli1}
use Rattle.notice.specs.declared.Noticed.{Noticed}
use Rattle.notice.specs.Notice.{no_notice, no_number, no_history, take_dli1, after_dli3, number_shown}
use Rattle.waits.specs.Waits.{no_waits, waits_for, dli1s, waits_with, room, take_all}
use Rattle.call.specs.declared.Call.{Call}
use Rattle.call.specs.declared.Message.{Message}
use Rattle.call.specs.declared.Effect.{Effect}
use Rattle.call.specs.Record.{outgoing, Proceeding, Delivered, Active, Idle, Divert, Invoked, active, delivered, divert, invoked, free_call, forwarded_party}
use Rattle.call.specs.Fields.{basic_is, cdo_is, cdr_is, party_is, waiting_is, history_is}
use Rattle.call.specs.Messages.{no_identifier, no_counter, letter_s, release_on, leg_failed_on, result_on, error_on, nothing, one, two, three, sending, silent}

-- "1 open outgoing": "An open starts in Proceeding, services Idle"
abbrev pub opened_outgoing : Event → Call
opened_outgoing e = record {
  direction = outgoing;
  basic = Proceeding;
  cdo = Idle;
  cdr = Idle;
  cds = 0;
  cdf = 0;
  granted = 0;
  counter = 0;
  start = 0;
  party = e.first;
  history = no_history;
  own = 0;
  diverting = 0;
  original = 0;
  identifier = 0;
  reason = 0;
  waiting = no_waits;
}

-- "DLI1 (reason, option, destination)", "second: nominated number"
abbrev pub dli1_of : Event → Dli1
dli1_of e = record { reason = e.reason; option = e.option; number = e.second }

-- "DLI1: CDO Divert."
abbrev pub to_cdo : Noticed → Call → Call
to_cdo n c = cdo_is Divert (history_is n.history c)

-- "SETUP with DLI2 to the destination": "DLI2 holds counter, reason, the leg 1 party before the event as diverting number,
-- and the original called number received."; document 02, Six: "C's number as diverting number"
abbrev pub setup_on : ℕ → ℕ → Event → Message
setup_on leg diverting e = record {
  letter = letter_s;
  leg = leg;
  reason = e.reason;
  option = 0;
  counter = e.counter;
  flag = 0;
  identifier = 0;
  destination = e.second;
  diverting = diverting;
  original = e.third;
  number = 0;
}

-- document 02, Six: "fitter C has cfu or cfb set and sends a callRerouting invoke on leg 2. .. Up to 15 may wait"
abbrev pub goes_on : Call → Event → Bool
goes_on c e = on_leg2 e && (eqb e.reason cfu || eqb e.reason cfb) && room c.waiting

-- "CDR Invoked, Active, or cfnr outside Delivered: return error on that leg"; document 02, Six: "In Invoked, such an invoke shall be
-- accepted .. A cfnr invoke on leg 2, a sixteenth wait, or any invoke on leg 1 in Invoked still gets the return error."
abbrev pub turns_down : Call → Event → Bool
turns_down c e = (invoked c && not (goes_on c e)) || active c || (eqb e.reason cfnr && not (delivered c))

-- ".. the record stays (ours)"
abbrev pub turned_down : Call → Event → Effect
turned_down c e = record {
  call = c;
  sent = one (error_on e.leg e.identifier);
  notice = no_notice;
  number = no_number;
  identifier = e.identifier;
  counter = no_counter;
}

-- "Else cfu or cfb: return result and RELEASE COMPLETE on leg 1, SETUP with DLI2 to the destination, now leg 1; Proceeding;
-- DLI1 (reason, option, destination) to the own CDO."
abbrev pub redirected : Call → Event → Effect
redirected c e = record {
  call = basic_is Proceeding (party_is e.second (to_cdo (take_dli1 c.history (dli1_of e)) c));
  sent = three (result_on 1 e.identifier) (release_on 1) (setup_on 1 c.party e);
  notice = (take_dli1 c.history (dli1_of e)).notice;
  number = no_number;
  identifier = e.identifier;
  counter = e.counter;
}

-- "Else cfnr: return result on leg 1, SETUP with DLI2 on leg 2, Invoked."
abbrev pub forwarded : Call → Event → Effect
forwarded c e = record {
  call = cdr_is Invoked (waiting_is (waits_for (dli1_of e)) c);
  sent = two (result_on 1 e.identifier) (setup_on 2 c.party e);
  notice = no_notice;
  number = no_number;
  identifier = e.identifier;
  counter = e.counter;
}

-- document 02, Six: "result and RELEASE COMPLETE on leg 2, SETUP with DLI2 (its counter, C's number as diverting number) to the new
-- destination, now leg 2. Each waiting DLI1 is kept"
abbrev pub forwarded_on : Call → Event → Effect
forwarded_on c e = record {
  call = waiting_is (waits_with c.waiting (dli1_of e)) c;
  sent = three (result_on 2 e.identifier) (release_on 2) (setup_on 2 (forwarded_party c) e);
  notice = no_notice;
  number = no_number;
  identifier = e.identifier;
  counter = e.counter;
}

-- "12: .."
abbrev pub rerouted : Call → Event → Effect
rerouted c e =
    when turns_down c e then turned_down c e else
    when invoked c then forwarded_on c e else
    when eqb e.reason cfnr then forwarded c e else
    redirected c e

-- "13: .." a DLI1 to the own CDO
abbrev pub informed : Call → Event → Effect
informed c e = record {
  call = to_cdo (take_dli1 c.history (dli1_of e)) c;
  sent = nothing;
  notice = (take_dli1 c.history (dli1_of e)).notice;
  number = no_number;
  identifier = no_identifier;
  counter = no_counter;
}

-- what waits in Invoked reaches the CDO: document 02, Six: "all are handed to the own CDO in order when leg 2 alerts, connects, or is
-- left alone by a release of leg 1"
abbrev pub hand_over : Call → Noticed
hand_over c = take_all c.history (dli1s c.waiting)

-- "CDR Idle": nothing waits any more; document 02, Six: "If leg 2 is released, leg 1 connects or the call ends, the waiting ones are dropped."
abbrev pub cdr_idle : Call → Call
cdr_idle c = cdr_is Idle (waiting_is no_waits c)

-- "leg 2 becomes leg 1, CDR Idle, DLI1 to the CDO"
abbrev pub moved_over : Call → Call
moved_over c = cdr_idle (party_is (forwarded_party c) (to_cdo (hand_over c) c))

-- "DLI3 in Divert .."; "In CDO Idle a DLI3 inside ALERTING or CONNECT is passed over."
abbrev pub with_dli3 : Call → Event → Call
with_dli3 c e = when divert c then history_is (after_dli3 c.history e.flag) c else c

abbrev pub number_for : Call → Event → ℕ
number_for c e = when divert c then number_shown c.history e.flag e.second else no_number

-- "ALERTING gives Delivered, CONNECT Active and, after its DLI3, CDO Idle."
abbrev pub after_message : Event → Call → Call
after_message e c =
    when alerting e then basic_is Delivered c else
    when connect e then basic_is Active (cdo_is Idle c) else
    c

-- "In Invoked, ALERTING or CONNECT on leg 2: RELEASE COMPLETE on leg 1, leg 2 becomes leg 1, CDR Idle, DLI1 to the CDO, then a DLI3."
abbrev pub taken_over : Call → Event → Effect
taken_over c e = record {
  call = after_message e (with_dli3 (moved_over c) e);
  sent = one (release_on 1);
  notice = (hand_over c).notice;
  number = number_for (moved_over c) e;
  identifier = no_identifier;
  counter = no_counter;
}

-- FACILITY, ALERTING or CONNECT on leg 1; in Invoked "CONNECT on leg 1: RELEASE COMPLETE on leg 2, CDR Idle."
abbrev pub on_first_leg : Call → Event → Effect
on_first_leg c e = record {
  call = after_message e (with_dli3 (when connect e then cdr_idle c else c) e);
  sent = when connect e && invoked c then one (release_on 2) else nothing;
  notice = no_notice;
  number = number_for c e;
  identifier = no_identifier;
  counter = no_counter;
}

-- "RELEASE on leg 1: leg 2 becomes leg 1, Proceeding, CDR Idle, DLI1 to the CDO (ours)."
abbrev pub leg2_remains : Call → Effect
leg2_remains c = record {
  call = basic_is Proceeding (moved_over c);
  sent = nothing;
  notice = (hand_over c).notice;
  number = no_number;
  identifier = no_identifier;
  counter = no_counter;
}

-- "RELEASE on leg 2: cfnrDivertedLegFailed on leg 1, CDR Idle."; "RELEASE on leg 1 in CDR Idle frees the record."
abbrev pub released : Call → Event → Effect
released c e =
    when on_leg2 e then sending (cdr_idle c) (one (leg_failed_on 1)) else
    when invoked c then leg2_remains c else
    silent free_call

-- "14: .."
abbrev pub messaged : Call → Event → Effect
messaged c e =
    when release_complete e then released c e else
    when on_leg2 e then taken_over c e else
    on_first_leg c e

-- "12" to "14"
unfoldable pub act_outgoing : Call → Event → Effect
act_outgoing c e =
    when eqb e.kind ReroutingInvoke then rerouted c e else
    when eqb e.kind Dli1Received then informed c e else
    messaged c e
