-- "Event records", the table of kinds with the fields that each uses. "A field that a kind doesn't use is 0."
use Rattle.std.specs.Prelude.{Bool, ◌&&◌, ◌||◌, not, leb, eqb}
use Rattle.ground.specs.Choice.{when◌then◌else◌}
use Rattle.event.specs.declared.Event.{Event}
use Rattle.event.specs.Remote.{of_remote, remote_fields}
use Rattle.event.specs.Kinds.{cfu, cfnr, with_number, no_dli3, allowed, forbidden, FACILITY, RELEASE-COMPLETE, facility, release_complete, OpenOutgoing, OpenIncoming, OpenWithDli2, UserAlerted, UserAnswers, DivertCall, ReroutingResult, ReroutingError, DivertedLegFailed, Clock, OwnSideEnds, ReroutingInvoke, Dli1Received, OutgoingMessage, FarEndEnds}

-- "1 open outgoing: first: party, not 0"; "2 open incoming: first: own number, not 0"
abbrev pub open_fields : Event → Bool
open_fields e =
    eqb e.call 0 && eqb e.leg 0 && eqb e.message 0 && eqb e.reason 0 && eqb e.option 0 && eqb e.counter 0
    && eqb e.flag 0 && eqb e.identifier 0 && not (eqb e.first 0) && eqb e.second 0 && eqb e.third 0

-- "3: first not 0; reason 0 to 3; counter 1 to 15; second diverting, third original called, each may be absent"
abbrev pub open_diverted_fields : Event → Bool
open_diverted_fields e =
    eqb e.call 0 && eqb e.leg 0 && eqb e.message 0 && leb e.reason cfnr && eqb e.option 0 && leb 1 e.counter
    && leb e.counter 15 && eqb e.flag 0 && eqb e.identifier 0 && not (eqb e.first 0)

-- "4 user alerted", "9 cfnrDivertedLegFailed received", "11 own side ends the call", "15 far end ends an incoming call": "call"
abbrev pub call_only : Event → Bool
call_only e =
    eqb e.leg 0 && eqb e.message 0 && eqb e.reason 0 && eqb e.option 0 && eqb e.counter 0 && eqb e.flag 0
    && eqb e.identifier 0 && eqb e.first 0 && eqb e.second 0 && eqb e.third 0

-- "5 user answers: call; flag 0 or 1 presentation allowed"
abbrev pub answer_fields : Event → Bool
answer_fields e =
    eqb e.leg 0 && eqb e.message 0 && eqb e.reason 0 && eqb e.option 0 && eqb e.counter 0 && leb e.flag allowed
    && eqb e.identifier 0 && eqb e.first 0 && eqb e.second 0 && eqb e.third 0

-- "6 divert: call; reason 1 to 3; option 0 to 2; second: destination, not 0"
abbrev pub divert_fields : Event → Bool
divert_fields e =
    eqb e.leg 0 && eqb e.message 0 && leb cfu e.reason && leb e.reason cfnr && leb e.option with_number && eqb e.counter 0
    && eqb e.flag 0 && eqb e.identifier 0 && eqb e.first 0 && not (eqb e.second 0) && eqb e.third 0

-- "7, 8 callRerouting result; error or reject: call; identifier"; document 02, Three: "a kind 7 or 8 event with identifier 0 is 3"
abbrev pub outcome_fields : Event → Bool
outcome_fields e =
    eqb e.leg 0 && eqb e.message 0 && eqb e.reason 0 && eqb e.option 0 && eqb e.counter 0 && eqb e.flag 0
    && not (eqb e.identifier 0) && eqb e.first 0 && eqb e.second 0 && eqb e.third 0

-- "10 clock: none"
abbrev pub clock_fields : Event → Bool
clock_fields e =
    eqb e.call 0 && eqb e.leg 0 && eqb e.message 0 && eqb e.reason 0 && eqb e.option 0 && eqb e.counter 0
    && eqb e.flag 0 && eqb e.identifier 0 && eqb e.first 0 && eqb e.second 0 && eqb e.third 0

-- "12 callRerouting invoke received: call; leg 1 or 2; reason 1 to 3; option 0 to 2; counter 1 to 15; identifier;
-- second: destination, not 0; third: original called or 0"; document 02, Three: "Received invokes may still bear 0"
abbrev pub rerouting_fields : Event → Bool
rerouting_fields e =
    leb 1 e.leg && leb e.leg 2 && eqb e.message 0 && leb cfu e.reason && leb e.reason cfnr && leb e.option with_number
    && leb 1 e.counter && leb e.counter 15 && eqb e.flag 0 && eqb e.first 0 && not (eqb e.second 0)

-- "13 divertingLegInformation1 (DLI1) received: call; reason 0 to 3; option 0 to 2; second: nominated number, not 0"
abbrev pub dli1_fields : Event → Bool
dli1_fields e =
    eqb e.leg 0 && eqb e.message 0 && leb e.reason cfnr && leb e.option with_number && eqb e.counter 0 && eqb e.flag 0
    && eqb e.identifier 0 && eqb e.first 0 && not (eqb e.second 0) && eqb e.third 0

-- "14 message on an outgoing call: call; leg 1 or 2; message 1 FACILITY, 2 ALERTING, 3 CONNECT, 4 RELEASE COMPLETE;
-- flag 0 no DLI3, 1 DLI3 allowed, 2 DLI3 forbidden; second: its number or 0 (0 when flag is 0)";
-- "FACILITY needs flag 1 or 2; RELEASE COMPLETE needs flag 0."
abbrev pub message_fields : Event → Bool
message_fields e =
    leb 1 e.leg && leb e.leg 2 && leb FACILITY e.message && leb e.message RELEASE-COMPLETE && eqb e.reason 0 && eqb e.option 0
    && eqb e.counter 0 && leb e.flag forbidden && eqb e.identifier 0 && eqb e.first 0 && eqb e.third 0
    && (not (eqb e.flag no_dli3) || eqb e.second 0)
    && (not (facility e) || not (eqb e.flag no_dli3))
    && (not (release_complete e) || eqb e.flag no_dli3)

-- the kind is one of 1 to 15 and its fields are as its row says
unfoldable pub call_made : Event → Bool
call_made e =
    ((eqb e.kind OpenOutgoing || eqb e.kind OpenIncoming) && open_fields e)
    || (eqb e.kind OpenWithDli2 && open_diverted_fields e)
    || ((eqb e.kind UserAlerted || eqb e.kind DivertedLegFailed || eqb e.kind OwnSideEnds || eqb e.kind FarEndEnds) && call_only e)
    || (eqb e.kind UserAnswers && answer_fields e)
    || (eqb e.kind DivertCall && divert_fields e)
    || ((eqb e.kind ReroutingResult || eqb e.kind ReroutingError) && outcome_fields e)
    || (eqb e.kind Clock && clock_fields e)
    || (eqb e.kind ReroutingInvoke && rerouting_fields e)
    || (eqb e.kind Dli1Received && dli1_fields e)
    || (eqb e.kind OutgoingMessage && message_fields e)

-- the kind is one of 1 to 31 and its fields are as the page says; kinds 16 to 31 have one rule
unfoldable pub well_made : Event → Bool
well_made e = when of_remote e then remote_fields e else call_made e
