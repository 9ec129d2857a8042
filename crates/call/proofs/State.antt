-- Document 02, Eight: what takes an event is in a basic state that the table leaves to it. Assumes nothing.
use Prim.Native.Nat.{ℕ}
use mathlib.Core.Path.{◌≡◌}
use mathlib.Core.Bool.{not, ◌&&◌, ◌||◌}
use lib.Dec.{T, eqb, eqb→eq, T_not}
use Rattle.ground.specs.Choice.{only}
use Rattle.ground.proofs.Bools.{and_l, and_r, or_inr, nor_l, nor_r, nor_i, not_not, is_true, is_false, from_true, by_cases, trivial}
use Rattle.event.specs.declared.Event.{Event}
use Rattle.event.specs.Kinds.{cfnr, facility, release_complete, on_leg2, of_incoming, of_outgoing}
use Rattle.event.specs.WellMade.{call_made}
use Rattle.waits.specs.Soundness.{waits_hold}
use Rattle.call.specs.declared.Call.{Call}
use Rattle.call.specs.Record.{proceeding, received, delivered, active, invoked, requested, granted, fits}
use Rattle.call.specs.Soundness.{sound_call}
use Rattle.call.specs.State.{leaving, granted_cfnr, message_forbids, state_forbids, addressed, NoneTakes, basic_forbids}
use Rattle.call.proofs.Denials.{denied, denied_first}
use Rattle.call.proofs.Sound.{Outgoing, Incoming, outgoing_of, incoming_of}
use Rattle.call.proofs.Made.{Made, opens_outgoing, opens_incoming, opens_diverted, alerts, answers, diverts_call, results, rejects, leg_fails, clocks, ends_own, invokes, informs, messages, far_ends, made, of_kind}
use Rattle.call.proofs.Kept.{to_incoming, to_outgoing}

ruleset denials = (nor_l, nor_r, nor_i, trivial)

-- "Requested and granted exclude each other and Active"
asked_inactive : {last : ℕ} {c : Call} → Incoming last c → T (requested c) → T (not (active c))
asked_inactive {last} {c} w r =
    let o : T (only (requested c || granted c) (not (active c))) = search (and_l, and_r) depth 8 in
    rw (is_true (requested c) r) at o

-- "their reason fits the basic state": a cfnr grant stands in Received
granted_received : {last : ℕ} {c : Call} → Incoming last c → T (granted_cfnr c) → T (received c)
granted_received {last} {c} w g =
    let y : T (granted c) = and_l (granted c) (eqb c.reason cfnr) g in
    let q : c.reason ≡ 3 = eqb→eq c.reason cfnr (and_r (granted c) (eqb c.reason cfnr) g) in
    let o : T (only (requested c || granted c) (fits c.reason c)) = search (and_l, and_r) depth 8 in
    rw (is_true (requested c || granted c) (or_inr (requested c) (granted c) y), q) at o

-- "CDR is Invoked only in Delivered"
invoked_delivered : {c : Call} → Outgoing c → T (invoked c) → T (delivered c)
invoked_delivered {c} w i = let h = rw (is_true (invoked c) i) at w.waiting in and_l (delivered c) (waits_hold c.waiting) h

-- the call that an event may name, by the event's direction
module _ (last : ℕ) (c : Call) (e : Event) (h : T (sound_call last c)) (a : T (addressed c e)) where
  pub as_incoming : T (of_incoming e) → Incoming last c
  as_incoming t = incoming_of last c h (to_incoming c e a t)

  pub as_outgoing : T (of_outgoing e) → Outgoing c
  as_outgoing t = outgoing_of last c h (to_outgoing c e a t)

-- what takes an event is in a basic state that does not forbid it
module _ (last : ℕ) (c : Call) (e : Event) (h : T (sound_call last c)) (a : T (addressed c e)) (n : T (not (state_forbids c e))) where
  answered_by : T (of_incoming e) → T (not (not (requested c))) → T (not (active c))
  answered_by t r = asked_inactive (as_incoming last c e h a t) (not_not (requested c) r)

  on_delivered : T (of_outgoing e) → T (not (on_leg2 e && not (invoked c))) → T (on_leg2 e) → T (delivered c)
  on_delivered t q l = invoked_delivered (as_outgoing last c e h a t) (denied (on_leg2 e) (invoked c) q l)

  -- shown of the event with its kind's number written out, where the table is that kind's test
  abbrev Open : Event → Type 0
  Open x = T (not (basic_forbids c x))

  taken_basic : Made e → Open e
  unfolding state_forbids basic_forbids
  taken_basic (opens_outgoing k f) = of_kind Open e k tt
  taken_basic (opens_incoming k f) = of_kind Open e k tt
  taken_basic (opens_diverted k f) = of_kind Open e k tt
  taken_basic (alerts k f) =
      let m = rw k at n in
      let x : T (not (not (proceeding c) || leaving c)) = search nor_l depth 8 in
      of_kind Open e k (search denials depth 8)
  taken_basic (answers k f) =
      let m = rw k at n in
      let x : T (not (active c || leaving c)) = search nor_l depth 8 in
      of_kind Open e k (search denials depth 8)
  taken_basic (diverts_call k f) =
      let m = rw k at n in
      let x : T (not (not (fits e.reason c) || (requested c || granted c))) = search nor_l depth 8 in
      of_kind Open e k (search denials depth 8)
  taken_basic (results k f) =
      let m = rw k at n in
      let r : T (not (not (requested c))) = search nor_l depth 8 in
      of_kind Open e k (rw (is_false (active c) (answered_by (rw k tt) r)) tt)
  taken_basic (rejects k f) =
      let m = rw k at n in
      let r : T (not (not (requested c))) = search nor_l depth 8 in
      of_kind Open e k (rw (is_false (active c) (answered_by (rw k tt) r)) tt)
  taken_basic (leg_fails k f) =
      let m = rw k at n in
      let g : T (not (not (granted_cfnr c))) = search in
      let p = granted_received (as_incoming last c e h a (rw k tt)) (not_not (granted_cfnr c) g) in
      of_kind Open e k (rw (eqb→eq c.basic 2 p) tt)
  taken_basic (clocks k f) = of_kind Open e k tt
  taken_basic (ends_own k f) = of_kind Open e k tt
  taken_basic (invokes k f) =
      let m = rw k at n in
      let q : T (not (on_leg2 e && not (invoked c))) = search (nor_l, nor_r) depth 8 in
      by_cases (on_leg2 e)
      (λ l. of_kind Open e k (rw (l, eqb→eq c.basic 2 (on_delivered (rw k tt) q (from_true (on_leg2 e) l))) tt))
      (λ l. of_kind Open e k (rw l tt))
  taken_basic (informs k f) =
      let m = rw k at n in
      let p : T (not (active c)) = search nor_l depth 8 in
      of_kind Open e k (search denials depth 8)
  taken_basic (messages k f) =
      let m : T (not (message_forbids c e)) = rw k at n in
      let q : T (not (on_leg2 e && not (invoked c))) = search (nor_l, nor_r) depth 8 in
      let y : T (not (facility e && on_leg2 e)) = search (nor_l, nor_r) depth 8 in
      let p : T (not (active c && not (release_complete e))) = search (nor_l, nor_r) depth 8 in
      by_cases (on_leg2 e)
      (λ l.
      let d = is_true (delivered c) (on_delivered (rw k tt) q (from_true (on_leg2 e) l)) in
      let z = is_false (facility e) (denied_first (facility e) (on_leg2 e) y (from_true (on_leg2 e) l)) in
      of_kind Open e k (rw (l, d, z) tt))
      (λ l. of_kind Open e k (rw l p))
  taken_basic (far_ends k f) = of_kind Open e k tt

-- so what the basic state forbids nothing takes
pub basic_none : (last : ℕ) (c : Call) (e : Event) → T (call_made e) → T (addressed c e) → T (basic_forbids c e) → NoneTakes last c e
unfolding basic_forbids
basic_none last c e m a b t =
    let d = t.taker in
    let o : T (addressed d e) = rw t.direction a in
    T_not (basic_forbids d e) (taken_basic last d e t.sound o t.takes (made e m)) (rw t.basic b)
