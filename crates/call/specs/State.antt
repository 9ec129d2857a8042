-- "5: The state rules below don't take the event"; document 02, Eight, splits that number by whether any sound record in the call's basic
-- state takes the event.
use Rattle.std.specs.Prelude.{ℕ, Bool, false, ◌&&◌, ◌||◌, not, ◌↔◌, ◌≡◌, T, eqb}
use Rattle.ground.specs.Choice.{when◌then◌else◌}
use Rattle.event.specs.declared.Event.{Event}
use Rattle.event.specs.Kinds.{cfu, cfb, cfnr, facility, release_complete, on_leg2, of_incoming, of_outgoing, ends, UserAlerted, UserAnswers, DivertedLegFailed, ReroutingInvoke, Dli1Received, OutgoingMessage, answers_request, diverts}
use Rattle.event.specs.WellMade.{well_made}
use Rattle.call.specs.declared.Call.{Call}
use Rattle.call.specs.Record.{is_free, is_outgoing, is_incoming, proceeding, received, delivered, active, divert, invoked, requested, granted, fits}
use Rattle.call.specs.Soundness.{sound_call}

-- "Requested or granted with cfu or cfb"
abbrev pub leaving : Call → Bool
leaving c = (requested c || granted c) && (eqb c.reason cfu || eqb c.reason cfb)

-- "granted cfnr"
abbrev pub granted_cfnr : Call → Bool
granted_cfnr c = granted c && eqb c.reason cfnr

-- "4: Proceeding becomes Received"; "5: Proceeding or Received becomes Active"; "Both: 5 if Requested or granted with cfu or cfb";
-- "6: reason cfu or cfb in Proceeding, cfnr in Received, CDS Idle, not granted"; "7 .. 8 .. Both need Requested"; "9: needs granted cfnr"
abbrev pub incoming_forbids : Call → Event → Bool
incoming_forbids c e =
    (eqb e.kind UserAlerted && (not (proceeding c) || leaving c))
    || (eqb e.kind UserAnswers && (active c || leaving c))
    || (diverts e && (not (fits e.reason c) || (requested c || granted c)))
    || (answers_request e && not (requested c))
    || (eqb e.kind DivertedLegFailed && not (granted_cfnr c))

-- "14: leg 2 in CDR Idle is 5; FACILITY on leg 2 or in CDO Idle is 5; in Active all but RELEASE COMPLETE are 5"
abbrev pub message_forbids : Call → Event → Bool
message_forbids c e =
    (on_leg2 e && not (invoked c))
    || (facility e && on_leg2 e)
    || (facility e && not (divert c))
    || (active c && not (release_complete e))

-- "12: CDR Idle with leg 2 is 5"; "13: 5 in Active"
abbrev pub outgoing_forbids : Call → Event → Bool
outgoing_forbids c e =
    (eqb e.kind ReroutingInvoke && on_leg2 e && not (invoked c))
    || (eqb e.kind Dli1Received && active c)
    || (eqb e.kind OutgoingMessage && message_forbids c e)

-- "The state rules below don't take the event"
unfoldable pub state_forbids : Call → Event → Bool
state_forbids c e =
    when of_incoming e then incoming_forbids c e else
    when of_outgoing e then outgoing_forbids c e else
    false

-- "free, or of the other direction (4 to 9, 15 incoming; 12 to 14 outgoing; 11 either)"
abbrev pub wrong_call : Call → Event → Bool
wrong_call c e = (of_incoming e && not (is_incoming c)) || (of_outgoing e && not (is_outgoing c)) || (ends e && is_free c)

abbrev pub addressed : Call → Event → Bool
addressed c e = not (wrong_call c e)

-- document 02, Eight: a "sound record in that basic state" which "takes the event", of the same direction; "the event" is with its fields. What
-- 6 and 7 test is not the state's. Numbers have no width here; those of the records in proofs/Takers fit their fields
pub record Taker (last : ℕ) (c : Call) (e : Event) : Type 0 where
  pub taker : Call
  pub sound : T (sound_call last taker)
  pub direction : taker.direction ≡ c.direction
  pub basic : taker.basic ≡ c.basic
  pub takes : T (not (state_forbids taker e))

-- "10 when no sound record in that basic state takes the event"
abbrev pub NoneTakes : ℕ → Call → Event → Type 0
NoneTakes last c e = Taker last c e → ⊥

-- the same decided by the basic state alone, as the reading's table has it under "10 in". "4: Received, Active"; "5: Active"; "6: a basic
-- state that its reason does not fit"; "7, 8: Active"; "9: Proceeding, Active"
abbrev pub incoming_basic_forbids : Call → Event → Bool
incoming_basic_forbids c e =
    (eqb e.kind UserAlerted && not (proceeding c))
    || (eqb e.kind UserAnswers && active c)
    || (diverts e && not (fits e.reason c))
    || (answers_request e && active c)
    || (eqb e.kind DivertedLegFailed && not (received c))

-- "14 on leg 2 but FACILITY: Proceeding, Active"; "14 FACILITY on leg 2: always"; "14 ALERTING, CONNECT on leg 1: Active"; "14 FACILITY on leg
-- 1: Active"; "Always taken: .. RELEASE COMPLETE on leg 1"
abbrev pub message_basic_forbids : Call → Event → Bool
message_basic_forbids c e = when on_leg2 e then facility e || not (delivered c) else active c && not (release_complete e)

-- "12 on leg 2: Proceeding, Active"; "13: Active"; "Always taken: .. 12 on leg 1"
abbrev pub outgoing_basic_forbids : Call → Event → Bool
outgoing_basic_forbids c e =
    (eqb e.kind ReroutingInvoke && on_leg2 e && not (delivered c))
    || (eqb e.kind Dli1Received && active c)
    || (eqb e.kind OutgoingMessage && message_basic_forbids c e)

-- the column "10 in" of the reading's table
unfoldable pub basic_forbids : Call → Event → Bool
basic_forbids c e =
    when of_incoming e then incoming_basic_forbids c e else
    when of_outgoing e then outgoing_basic_forbids c e else
    false

-- "11 when only a service state (CDS, CDR, CDO, a grant, a missing leg 2) forbids it; 10 is tested first"; 0 where the event is taken
abbrev pub ten_or_eleven : Bool → Bool → ℕ
ten_or_eleven basic state =
    when basic then 10 else
    when state then 11 else
    0

abbrev pub state_number : Call → Event → ℕ
state_number c e = ten_or_eleven (basic_forbids c e) (state_forbids c e)

-- the table is the sentence, wherever the call is sound and one that the event may name
abbrev pub BasicExact : Type 0
BasicExact =
    (last : ℕ) (c : Call) (e : Event) → T (sound_call last c) → T (well_made e) → T (addressed c e) → T (basic_forbids c e) ↔ NoneTakes last c e

-- and there is such a record exactly where the table does not forbid the event
abbrev pub TakerExact : Type 0
TakerExact =
    (last : ℕ) (c : Call) (e : Event) → T (sound_call last c) → T (well_made e) → T (addressed c e) → T (not (basic_forbids c e)) ↔ Taker last c e
