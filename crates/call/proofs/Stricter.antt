-- One event on a record and on a stricter one. Assumes nothing.
use Prim.Native.Nat.{ℕ, ◌≤◌, ◌<◌}
use mathlib.Core.Path.{◌≡◌, refl}
use mathlib.Core.Bool.{Bool, true, false, ◌&&◌, ◌||◌}
use mathlib.Core.Logic.{⊎_elim}
use native.Mathlib.Nat.{le_refl, le_of_lt}
use native.Mathlib.Omega.{arith}
use lib.Dec.{T, leb, eqb}
use borrow.Author.Tests.{leb-true, leb-false, ne_eqb}
use Rattle.ground.specs.Choice.{when◌then◌else◌}
use Rattle.ground.proofs.Bools.{by_cases}
use Rattle.ground.proofs.Walks.{and_false}
use Rattle.event.specs.declared.Event.{Event}
use Rattle.event.specs.Kinds.{cfnr, allowed, forbidden, alerting, connect, release_complete, on_leg2, opens, of_incoming, of_outgoing, clock}
use Rattle.event.specs.Fields.{option_is, flag_is}
use Rattle.event.specs.WellMade.{call_made}
use Rattle.notice.specs.Notice.{no_notice, no_number, no_history}
use Rattle.notice.specs.Stricter.{ShownOnlyWhere, agreed, StricterDli1, lowered, StricterFlag, kept, forbade, StricterHistory}
use Rattle.notice.proofs.Stricter.{dli1_stricter, notice_stricter, number_stricter, dli3_stricter, history_stricter}
use Rattle.waits.specs.Waits.{no_waits}
use Rattle.waits.proofs.Laws.{hands_over_stricter, hands_over_no_more, party_same}
use Rattle.waits.proofs.Counted.{room_same}
use Rattle.waits.proofs.Kept.{none_stricter, for_stricter, with_stricter}
use Rattle.call.specs.declared.Call.{Call}
use Rattle.call.specs.declared.Sent.{Sent}
use Rattle.call.specs.declared.Effect.{Effect}
use Rattle.call.specs.Record.{is_free, divert, invoked, free_call}
use Rattle.call.specs.State.{basic_forbids, state_forbids}
use Rattle.call.specs.Fields.{basic_is}
use Rattle.call.specs.Incoming.{due, expired, act_incoming}
use Rattle.call.specs.Outgoing.{dli1_of, turns_down, redirected, forwarded, forwarded_on, rerouted, informed, hand_over, cdr_idle, moved_over, with_dli3, number_for, after_message, taken_over, on_first_leg, leg2_remains, messaged, act_outgoing}
use Rattle.call.specs.Act.{opened, ended, act}
use Rattle.call.specs.Stricter.{StricterEvent, same, lower, hide, StricterCall, stricter, StricterEffect}

-- a decision keeps a relation
pub when_keeps : {A : Type 0} (R : A → A → Type 0) (b : Bool) {x x' y y' : A} → (T b → R x x') → R y y' → R (when b then x else y) (when b then x' else y')
when_keeps R true p q = p tt
when_keeps R false p q = q

when_effect : (b : Bool) {x x' y y' : Effect} → (T b → StricterEffect x x') → StricterEffect y y' → StricterEffect (when b then x else y) (when b then x' else y')
when_effect b p q = when_keeps StricterEffect b p q

-- an effect that shows nothing
quiet : {c c' : Call} {sent : Sent} {identifier counter : ℕ} → StricterCall c c'
    → StricterEffect (record { call = c; sent = sent; notice = no_notice; number = no_number; identifier = identifier; counter = counter })
    (record { call = c'; sent = sent; notice = no_notice; number = no_number; identifier = identifier; counter = counter })
quiet p = record { call = p; sent = refl; notice = agreed; number = agreed; identifier = refl; counter = refl }

new_stricter : StricterHistory no_history no_history
new_stricter = history_stricter no_history (omega arith)

pub free_stricter : StricterCall free_call free_call
free_stricter = stricter free_call no_waits no_history none_stricter new_stricter

-- "Rules for incoming calls"
incoming_stricter : {c c' : Call} (e : Event) (identifier : ℕ) → StricterCall c c' → StricterEffect (act_incoming c e identifier) (act_incoming c' e identifier)
unfolding act_incoming
incoming_stricter e identifier (stricter c w h p q) = search (when_effect, quiet, stricter, free_stricter) depth 12

-- What two events share: all but the option and the flag.
pub data Framed : Event → Event → Type 0 where
  framed : (e : Event) (option flag : ℕ) → Framed e (flag_is flag (option_is option e))

pub framed_of : {e e' : Event} → StricterEvent e e' → Framed e e'
framed_of (same e) = framed e e.option e.flag
framed_of (lower e option k l m) = framed e option e.flag
framed_of (hide e k) = framed (flag_is allowed e) e.option forbidden

dli1_of_lem : {e e' : Event} → StricterEvent e e' → e.option ≤ 2 → StricterDli1 (dli1_of e) (dli1_of e')
dli1_of_lem (same e) small = lowered (dli1_of e) e.option (le_refl _) small
dli1_of_lem (lower e option k l m) small = lowered (dli1_of e) option (le_of_lt l) small
dli1_of_lem (hide e k) small = lowered (dli1_of e) e.option (le_refl _) small

flag_of_lem : {e e' : Event} → StricterEvent e e' → StricterFlag e.flag e'.flag
flag_of_lem (same e) = kept
flag_of_lem (lower e option k l m) = kept
flag_of_lem (hide e k) = forbade

-- A rule whose effect hangs on the event's DLI1, and one whose effect hangs on its DLI3.
abbrev ByDli1 : (Call → Event → Effect) → Type 0
ByDli1 rule = (c c' : Call) (e e' : Event) → StricterCall c c' → Framed e e' → StricterDli1 (dli1_of e) (dli1_of e') → StricterEffect (rule c e) (rule c' e')

abbrev ByDli3 : (Call → Event → Effect) → Type 0
ByDli3 rule = (c c' : Call) (e e' : Event) → StricterCall c c' → Framed e e' → StricterFlag e.flag e'.flag → StricterEffect (rule c e) (rule c' e')

-- "Else cfu or cfb: .."
redirected_stricter : ByDli1 redirected
redirected_stricter c c' e e' (stricter _ w h p q) (framed _ option flag) d = record {
  call = stricter _ w _ p (dli1_stricter q d);
  sent = refl;
  notice = notice_stricter q d;
  number = agreed;
  identifier = refl;
  counter = refl;
}

-- "Else cfnr: .."
forwarded_stricter : ByDli1 forwarded
forwarded_stricter c c' e e' (stricter _ w h p q) (framed _ option flag) d = record {
  call = stricter _ _ h (for_stricter d) q;
  sent = refl;
  notice = agreed;
  number = agreed;
  identifier = refl;
  counter = refl;
}

-- document 02, Six: ".. SETUP with DLI2 .. to the new destination, now leg 2. Each waiting DLI1 is kept"
forwarded_on_stricter : ByDli1 forwarded_on
forwarded_on_stricter c c' e e' (stricter _ w h p q) (framed _ option flag) d = record {
  call = stricter _ _ h (with_stricter p d) q;
  sent = rw (party_same c.waiting w p) refl;
  notice = agreed;
  number = agreed;
  identifier = refl;
  counter = refl;
}

-- "12: .."
rerouted_stricter : ByDli1 rerouted
rerouted_stricter c c' e e' (stricter _ w h p q) (framed _ option flag) d =
    let r : StricterCall c _ = stricter c w h p q in
    rw (room_same c.waiting w p)
    (when_effect (turns_down c e) (λ t. quiet r)
    (when_effect (invoked c) (λ t. forwarded_on_stricter c _ e _ r (framed e option flag) d)
    (when_effect (eqb e.reason cfnr) (λ t. forwarded_stricter c _ e _ r (framed e option flag) d) (redirected_stricter c _ e _ r (framed e option flag) d))))

-- "13: .."
informed_stricter : ByDli1 informed
informed_stricter c c' e e' (stricter _ w h p q) (framed _ option flag) d = record {
  call = stricter _ w _ p (dli1_stricter q d);
  sent = refl;
  notice = notice_stricter q d;
  number = agreed;
  identifier = refl;
  counter = refl;
}

-- "leg 2 becomes leg 1, CDR Idle, DLI1 to the CDO"
moved_stricter : {c c' : Call} → StricterCall c c' → StricterCall (moved_over c) (moved_over c')
moved_stricter (stricter c w h p q) =
    rw (party_same c.waiting w p) (stricter _ no_waits _ none_stricter (hands_over_stricter c.history h c.waiting w q p))

handed_notice : {c c' : Call} → StricterCall c c' → ShownOnlyWhere no_notice (hand_over c).notice (hand_over c').notice
handed_notice (stricter c w h p q) = hands_over_no_more c.history h c.waiting w q p

-- "DLI3 in Divert .."; "In CDO Idle .. passed over"
dli3_call : {c c' : Call} {e e' : Event} → StricterCall c c' → Framed e e' → StricterFlag e.flag e'.flag
    → StricterCall (with_dli3 c e) (with_dli3 c' e')
dli3_call (stricter c w h p q) (framed e option flag) f = when_keeps StricterCall (divert c) (λ t. stricter _ w _ p (dli3_stricter q f)) (stricter c w h p q)

dli3_number : {c c' : Call} {e e' : Event} → StricterCall c c' → Framed e e' → StricterFlag e.flag e'.flag
    → ShownOnlyWhere no_number (number_for c e) (number_for c' e')
dli3_number (stricter c w h p q) (framed e option flag) f = when_keeps (ShownOnlyWhere no_number) (divert c) (λ t. number_stricter e.second q f) agreed

-- "ALERTING gives Delivered, CONNECT Active and, after its DLI3, CDO Idle."
after_stricter : {c c' : Call} (e : Event) → StricterCall c c' → StricterCall (after_message e c) (after_message e c')
after_stricter e (stricter c w h p q) =
    when_keeps StricterCall (alerting e) (λ t. stricter _ w h p q)
    (when_keeps StricterCall (connect e) (λ t. stricter _ w h p q) (stricter c w h p q))

idle_stricter : {c c' : Call} → StricterCall c c' → StricterCall (cdr_idle c) (cdr_idle c')
idle_stricter (stricter c w h p q) = stricter _ no_waits h none_stricter q

-- "In Invoked, ALERTING or CONNECT on leg 2: .."
taken_stricter : ByDli3 taken_over
taken_stricter c c' e e' r (framed _ option flag) f = record {
  call = after_stricter e (dli3_call (moved_stricter r) (framed e option flag) f);
  sent = refl;
  notice = handed_notice r;
  number = dli3_number (moved_stricter r) (framed e option flag) f;
  identifier = refl;
  counter = refl;
}

-- FACILITY, ALERTING or CONNECT on leg 1
first_stricter : ByDli3 on_first_leg
first_stricter c c' e e' (stricter _ w h p q) (framed _ option flag) f =
    let r : StricterCall c _ = stricter c w h p q in
    record {
      call = after_stricter e (dli3_call (when_keeps StricterCall (connect e) (λ u. idle_stricter r) r) (framed e option flag) f);
      sent = refl;
      notice = agreed;
      number = dli3_number r (framed e option flag) f;
      identifier = refl;
      counter = refl;
    }

-- "RELEASE on leg 1: leg 2 becomes leg 1, Proceeding, CDR Idle, DLI1 to the CDO (ours)."
left_stricter : {c c' : Call} → StricterCall c c' → StricterEffect (leg2_remains c) (leg2_remains c')
left_stricter (stricter c w h p q) = record {
  call = proceeding (moved_stricter (stricter c w h p q));
  sent = refl;
  notice = handed_notice (stricter c w h p q);
  number = agreed;
  identifier = refl;
  counter = refl;
}
  where
    proceeding : {c c' : Call} → StricterCall c c' → StricterCall (basic_is 1 c) (basic_is 1 c')
    proceeding (stricter c w h p q) = stricter _ w h p q

-- "14: .."
messaged_stricter : ByDli3 messaged
messaged_stricter c c' e e' (stricter _ w h p q) (framed _ option flag) f =
    let r : StricterCall c _ = stricter c w h p q in
    when_effect (release_complete e)
    (λ t. when_effect (on_leg2 e) (λ u. quiet (idle_stricter r)) (when_effect (invoked c) (λ u. left_stricter r) (quiet free_stricter)))
    (when_effect (on_leg2 e) (λ t. taken_stricter c _ e _ r (framed e option flag) f) (first_stricter c _ e _ r (framed e option flag) f))

-- "Rules for outgoing calls"
outgoing_stricter : {c c' : Call} {e e' : Event} → StricterCall c c' → Framed e e' → StricterDli1 (dli1_of e) (dli1_of e')
    → StricterFlag e.flag e'.flag → StricterEffect (act_outgoing c e) (act_outgoing c' e')
unfolding act_outgoing
outgoing_stricter {c} {c'} p (framed e option flag) d f =
    let a : Framed e _ = framed e option flag in
    when_effect (eqb e.kind 12) (λ t. rerouted_stricter c c' e _ p a d)
    (when_effect (eqb e.kind 13) (λ t. informed_stricter c c' e _ p a d) (messaged_stricter c c' e _ p a f))

-- "option 0 to 2", or unused and 0, in every row of the table of kinds
option_small : (e : Event) → T (call_made e) → e.option ≤ 2
unfolding call_made
option_small e t =
    by_cases (leb e.option 2) (leb-true e.option 2)
    (λ n. let big : 2 < e.option = leb-false e.option 2 n in absurd (simp (n, ne_eqb e.option 0 (λ z. omega arith), and_false) at t))

-- an event is tightened only in kinds 12 to 14: one that a test on the kind takes is the same, if the test takes none of these
pub untightened : {e e' : Event} (test : ℕ → Bool) → (T (test 12) → ⊥) → (T (test 13) → ⊥) → (T (test 14) → ⊥) → StricterEvent e e'
    → T (test e.kind) → e' ≡ e
untightened test a b c (same e) t = refl
untightened test a b c (lower e option k l m) t = absurd (⊎_elim (λ (z : e.kind ≡ 12). a (rw z at t)) (λ (z : e.kind ≡ 13). b (rw z at t)) k)
untightened test a b c (hide e k) t = absurd (c (rw k at t))

incoming_same : {e e' : Event} → StricterEvent e e' → T (of_incoming e) → e' ≡ e
incoming_same q t = untightened (λ k. (leb 4 k && leb k 9) || eqb k 15) (λ z. z) (λ z. z) (λ z. z) q t

pub opening_same : {e e' : Event} → StricterEvent e e' → T (opens e) → e' ≡ e
opening_same q t = untightened (λ k. leb 1 k && leb k 3) (λ z. z) (λ z. z) (λ z. z) q t

opened_stricter : (e : Event) → StricterEffect (opened e) (opened e)
opened_stricter e = when_effect (eqb e.kind 1) (λ t. quiet (stricter _ _ _ none_stricter new_stricter)) (quiet (stricter _ _ _ none_stricter new_stricter))

ended_stricter : {c c' : Call} → StricterCall c c' → StricterEffect (ended c) (ended c')
ended_stricter (stricter c w h p q) = when_effect (invoked c) (λ t. quiet free_stricter) (quiet free_stricter)

expired_stricter : {c c' : Call} → StricterCall c c' → StricterEffect (expired c) (expired c')
expired_stricter (stricter c w h p q) = quiet (stricter _ w h p q)

act_framed : {c c' : Call} {e e' : Event} (identifier : ℕ) → StricterCall c c' → Framed e e' → (T (of_incoming e) → e' ≡ e)
    → StricterDli1 (dli1_of e) (dli1_of e') → StricterFlag e.flag e'.flag → StricterEffect (act c e identifier) (act c' e' identifier)
unfolding act
act_framed identifier p (framed e option flag) only d f =
    when_effect (opens e) (λ t. opened_stricter e)
    (when_effect (of_incoming e) (λ t. rw (only t) (incoming_stricter e identifier p))
    (when_effect (of_outgoing e) (λ t. outgoing_stricter p (framed e option flag) d f)
    (when_effect (clock e) (λ t. expired_stricter p) (ended_stricter p))))

-- what an event does to a record and to a stricter one
pub act_rel : {c c' : Call} {e e' : Event} (identifier : ℕ) → StricterCall c c' → StricterEvent e e' → T (call_made e)
    → StricterEffect (act c e identifier) (act c' e' identifier)
act_rel {e = e} identifier p q t = act_framed identifier p (framed_of q) (incoming_same q) (dli1_of_lem q (option_small e t)) (flag_of_lem q)

-- what the tests of a refusal read is shared
pub forbids_same : {c c' : Call} {e e' : Event} → StricterCall c c' → Framed e e' → state_forbids c' e' ≡ state_forbids c e
unfolding state_forbids
forbids_same (stricter c w h p q) (framed e option flag) = refl

pub basic_same : {c c' : Call} {e e' : Event} → StricterCall c c' → Framed e e' → basic_forbids c' e' ≡ basic_forbids c e
unfolding basic_forbids
basic_same (stricter c w h p q) (framed e option flag) = refl

pub free_same : (c c' : Call) → StricterCall c c' → is_free c' ≡ is_free c
free_same c c' (stricter d w h p q) = refl

pub due_same : (time : ℕ) (c c' : Call) → StricterCall c c' → due time c' ≡ due time c
due_same time c c' (stricter d w h p q) = refl
