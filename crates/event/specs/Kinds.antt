-- The numbers of "Event records" by their names, and the groups of kinds. A kind's name and a message's begin with a capital
-- letter; what tests an event for one does not.
use Rattle.std.specs.Prelude.{ℕ, Bool, ◌&&◌, ◌||◌, leb, eqb}
use Rattle.event.specs.declared.Event.{Event}

-- "Reasons: 0 unknown, 1 cfu, 2 cfb, 3 cfnr"
abbrev pub unknown : ℕ
unknown = 0

abbrev pub cfu : ℕ
cfu = 1

abbrev pub cfb : ℕ
cfb = 2

abbrev pub cfnr : ℕ
cfnr = 3

-- "Options: 0 no notification, 1 without number, 2 with number"
abbrev pub no_notification : ℕ
no_notification = 0

abbrev pub without_number : ℕ
without_number = 1

abbrev pub with_number : ℕ
with_number = 2

-- "flag 0 no DLI3, 1 DLI3 allowed, 2 DLI3 forbidden"; of kind 5 "flag 0 or 1 presentation allowed"
abbrev pub no_dli3 : ℕ
no_dli3 = 0

abbrev pub allowed : ℕ
allowed = 1

abbrev pub forbidden : ℕ
forbidden = 2

-- "message 1 FACILITY, 2 ALERTING, 3 CONNECT, 4 RELEASE COMPLETE"
abbrev pub FACILITY : ℕ
FACILITY = 1

abbrev pub ALERTING : ℕ
ALERTING = 2

abbrev pub CONNECT : ℕ
CONNECT = 3

abbrev pub RELEASE-COMPLETE : ℕ
RELEASE-COMPLETE = 4

abbrev pub facility : Event → Bool
facility e = eqb e.message FACILITY

abbrev pub alerting : Event → Bool
alerting e = eqb e.message ALERTING

abbrev pub connect : Event → Bool
connect e = eqb e.message CONNECT

abbrev pub release_complete : Event → Bool
release_complete e = eqb e.message RELEASE-COMPLETE

-- "leg 1 or 2"
abbrev pub on_leg2 : Event → Bool
on_leg2 e = eqb e.leg 2

-- "1 open outgoing"
abbrev pub OpenOutgoing : ℕ
OpenOutgoing = 1

-- "2 open incoming"
abbrev pub OpenIncoming : ℕ
OpenIncoming = 2

-- "3 open incoming with divertingLegInformation2 (DLI2)"
abbrev pub OpenWithDli2 : ℕ
OpenWithDli2 = 3

-- "4 user alerted"
abbrev pub UserAlerted : ℕ
UserAlerted = 4

-- "5 user answers"
abbrev pub UserAnswers : ℕ
UserAnswers = 5

-- "6 divert"
abbrev pub DivertCall : ℕ
DivertCall = 6

-- "7, 8 callRerouting result; error or reject"
abbrev pub ReroutingResult : ℕ
ReroutingResult = 7

abbrev pub ReroutingError : ℕ
ReroutingError = 8

-- "9 cfnrDivertedLegFailed received"
abbrev pub DivertedLegFailed : ℕ
DivertedLegFailed = 9

-- "10 clock"
abbrev pub Clock : ℕ
Clock = 10

-- "11 own side ends the call"
abbrev pub OwnSideEnds : ℕ
OwnSideEnds = 11

-- "12 callRerouting invoke received"
abbrev pub ReroutingInvoke : ℕ
ReroutingInvoke = 12

-- "13 divertingLegInformation1 (DLI1) received"
abbrev pub Dli1Received : ℕ
Dli1Received = 13

-- "14 message on an outgoing call"
abbrev pub OutgoingMessage : ℕ
OutgoingMessage = 14

-- "15 far end ends an incoming call"
abbrev pub FarEndEnds : ℕ
FarEndEnds = 15

-- document 02, Seven: "New kinds, in this order of sorts: 16 to 19 our user's request": activation, deactivation, interrogation and the
-- restriction check
abbrev pub AskActivation : ℕ
AskActivation = 16

abbrev pub AskDeactivation : ℕ
AskDeactivation = 17

abbrev pub AskInterrogation : ℕ
AskInterrogation = 18

abbrev pub AskCheck : ℕ
AskCheck = 19

-- "20 to 23 the invoke received"
abbrev pub ActivationInvoke : ℕ
ActivationInvoke = 20

abbrev pub DeactivationInvoke : ℕ
DeactivationInvoke = 21

abbrev pub InterrogationInvoke : ℕ
InterrogationInvoke = 22

abbrev pub CheckInvoke : ℕ
CheckInvoke = 23

-- "24 to 27 a result"
abbrev pub ActivationResult : ℕ
ActivationResult = 24

abbrev pub DeactivationResult : ℕ
DeactivationResult = 25

abbrev pub InterrogationResult : ℕ
InterrogationResult = 26

abbrev pub CheckResult : ℕ
CheckResult = 27

-- "28 to 31 an error or reject"
abbrev pub ActivationError : ℕ
ActivationError = 28

abbrev pub DeactivationError : ℕ
DeactivationError = 29

abbrev pub InterrogationError : ℕ
InterrogationError = 30

abbrev pub CheckError : ℕ
CheckError = 31

-- the three opens
abbrev pub opens : Event → Bool
opens e = leb OpenOutgoing e.kind && leb e.kind OpenWithDli2

-- "4 to 9, 15 incoming"
abbrev pub of_incoming : Event → Bool
of_incoming e = (leb UserAlerted e.kind && leb e.kind DivertedLegFailed) || eqb e.kind FarEndEnds

-- "12 to 14 outgoing"
abbrev pub of_outgoing : Event → Bool
of_outgoing e = leb ReroutingInvoke e.kind && leb e.kind OutgoingMessage

abbrev pub diverts : Event → Bool
diverts e = eqb e.kind DivertCall

-- a result, or an error or reject
abbrev pub answers_request : Event → Bool
answers_request e = eqb e.kind ReroutingResult || eqb e.kind ReroutingError

abbrev pub clock : Event → Bool
clock e = eqb e.kind Clock

abbrev pub ends : Event → Bool
ends e = eqb e.kind OwnSideEnds
