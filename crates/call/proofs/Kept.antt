-- "Each done event leaves a sound table", of one record. Assumes nothing.
use Prim.Native.Nat.{ℕ, ◌≤◌}
use native.Mathlib.Omega.{arith}
use mathlib.Core.Path.{◌≡◌, refl}
use mathlib.Core.Bool.{Bool, false, not, ◌&&◌, ◌||◌}
use lib.Dec.{T, eqb, leb, leb→le, le→leb, T_not, not_T}
use Rattle.ground.proofs.Bools.{and_l, and_r, and_i, nor_l, nor_r, not_not, when_has, trivial}
use Rattle.event.specs.declared.Event.{Event}
use Rattle.event.specs.Kinds.{of_incoming, of_outgoing, diverts, release_complete, on_leg2}
use Rattle.event.specs.WellMade.{call_made}
use Rattle.call.specs.declared.Call.{Call}
use Rattle.call.specs.declared.Effect.{Effect}
use Rattle.call.specs.Record.{is_outgoing, is_incoming, proceeding, active, requested, granted, invoked, fits, free_call}
use Rattle.call.specs.Soundness.{start_holds, sound_call}
use Rattle.call.specs.State.{leaving, addressed, message_forbids, state_forbids}
use Rattle.call.specs.Incoming.{idle, act_incoming}
use Rattle.call.specs.Outgoing.{messaged, act_outgoing}
use Rattle.call.specs.Act.{ended, act}
use Rattle.call.proofs.Denials.{denied}
use Rattle.call.proofs.Sound.{Outgoing, Incoming, Sound, free, outgoing, incoming, outgoing_of, incoming_of, free_sound, outgoing_sound, incoming_sound, sound_view, unasked}
use Rattle.call.proofs.Made.{Made, opens_outgoing, opens_incoming, opens_diverted, alerts, answers, diverts_call, results, rejects, leg_fails, clocks, ends_own, invokes, informs, messages, far_ends, made, with_kind, of_kind}
use Rattle.call.proofs.KeptIncoming as inc
use Rattle.call.proofs.KeptOutgoing as out

later : {last : ℕ} {c : Call} (time : ℕ) → last ≤ time → Incoming last c → Incoming time c
later {last} {c} time l w =
    let m = leb→le c.start last w.start in
    let s : T (start_holds time c) = le→leb c.start time (omega arith) in
    search

-- "no T1 start is after the last time": nor after a later one
pub sound_later : (last time : ℕ) (c : Call) → last ≤ time → T (sound_call last c) → T (sound_call time c)
sound_later last time c l h = go (sound_view last c h)
  where
    go : Sound last c → T (sound_call time c)
    go (free e) = rw e (free_sound time)
    go (outgoing w) = outgoing_sound time w
    go (incoming w) = incoming_sound (later time l w)

pub to_incoming : (c : Call) (e : Event) → T (addressed c e) → T (of_incoming e) → T (is_incoming c)
to_incoming c e a t =
    let n : T (not (of_incoming e && not (is_incoming c))) = search nor_l in
    denied (of_incoming e) (is_incoming c) n t

pub to_outgoing : (c : Call) (e : Event) → T (addressed c e) → T (of_outgoing e) → T (is_outgoing c)
to_outgoing c e a t =
    let n : T (not (of_outgoing e && not (is_outgoing c))) = search (nor_l, nor_r) in
    denied (of_outgoing e) (is_outgoing c) n t

-- "4: Proceeding becomes Received .. 5 if Requested or granted with cfu or cfb": a sound record that takes it has neither
pub alerts_unheld : {last : ℕ} (c : Call) (e : Event) → e.kind ≡ 4 → T (not (state_forbids c e)) → Incoming last c → T (not (requested c || granted c))
unfolding state_forbids
alerts_unheld c e k n w =
    let m = rw k at n in
    let p : T (not (not (proceeding c))) = search (nor_l, nor_r) depth 8 in
    let q : T (not (leaving c)) = search (nor_l, nor_r) depth 8 in
    inc.unheld w (not_not (proceeding c) p) q

-- a record after an event: sound, if the identifier that a divert would take is not 0, and a request that it holds is one that the event, a
-- divert, opened
record Left (time identifier : ℕ) (diverting : Bool) (c : Call) : Type 0 where
  sound : T (not (eqb identifier 0)) → T (sound_call time c)
  request : T (requested c) → T diverting × (c.identifier ≡ identifier)

abbrev Leaves : ℕ → ℕ → Bool → Effect → Type 0
Leaves time identifier diverting x = Left time identifier diverting x.call

module _ {time identifier : ℕ} {diverting : Bool} where
  left_unasked : {c : Call} → T (sound_call time c) → T (not (requested c)) → Left time identifier diverting c
  left_unasked {c} h n = record { sound = λ _. h; request = λ r. absurd (T_not (requested c) n r) }

  left_free : Left time identifier diverting free_call
  left_free = left_unasked (free_sound time) tt

  left_incoming : {c : Call} → Incoming time c → T (not (requested c)) → Left time identifier diverting c
  left_incoming w n = left_unasked (incoming_sound w) n

  left_outgoing : {c : Call} → Outgoing c → Left time identifier diverting c
  left_outgoing {c} w = left_unasked (outgoing_sound time w) (unasked c w.unused)

  -- "10: .. ends as by a reject": whatever the record is
  left_idle : (c : Call) → Sound time c → Left time identifier diverting (idle c)
  left_idle c (free e) = rw e left_free
  left_idle c (outgoing w) = let q : Outgoing (idle c) = search (and_l, and_r, and_i, trivial) depth 12 in left_outgoing q
  left_idle c (incoming w) = left_incoming (inc.idle_kept w) tt

  left_ended : (c : Call) → Leaves time identifier diverting (ended c)
  left_ended c = when_has (Leaves time identifier diverting) (invoked c) (λ _. left_free) (λ _. left_free)

module _ (identifier : ℕ) (c : Call) (e : Event) (h : T (sound_call e.time c)) (a : T (addressed c e)) (n : T (not (state_forbids c e))) where
  as_incoming : T (of_incoming e) → Incoming e.time c
  as_incoming t = incoming_of e.time c h (to_incoming c e a t)

  as_outgoing : T (of_outgoing e) → Outgoing c
  as_outgoing t = outgoing_of e.time c h (to_outgoing c e a t)

  messaged_left : (diverting : Bool) → e.kind ≡ 14 → Leaves e.time identifier diverting (messaged c e)
  unfolding state_forbids
  messaged_left diverting k =
      let w = as_outgoing (rw k tt) in
      let m : T (not (message_forbids c e)) = rw k at n in
      let p : T (not (active c && not (release_complete e))) = search (nor_l, nor_r) depth 8 in
      let q : T (not (on_leg2 e && not (invoked c))) = search (nor_l, nor_r) depth 8 in
      when_has (Leaves e.time identifier diverting) (release_complete e)
      (λ _. when_has (Leaves e.time identifier diverting) (on_leg2 e)
      (λ _. left_outgoing (out.cdr_idle_kept w))
      (λ _. when_has (Leaves e.time identifier diverting) (invoked c)
      (λ i. left_outgoing (out.leg2_remains_kept w i))
      (λ _. left_free)))
      (λ r. when_has (Leaves e.time identifier diverting) (on_leg2 e)
      (λ l. left_outgoing (out.taken_over_kept e w (denied (on_leg2 e) (invoked c) q l)))
      (λ _. left_outgoing (out.first_leg_kept e w (not_T (active c) (λ t. T_not (release_complete e) r (denied (active c) (release_complete e) p t))))))

  -- shown of the event with its kind's number written out, where `act` is that kind's rule
  abbrev Here : Event → Type 0
  Here x = Leaves e.time identifier (diverts x) (act c x identifier)

  left : Made e → Here e
  unfolding act act_incoming act_outgoing state_forbids
  left (opens_outgoing k f) = of_kind Here e k (left_outgoing (out.opened_kept e f))
  left (opens_incoming k f) = of_kind Here e k (left_incoming (inc.opened_kept (with_kind 2 e) refl f) tt)
  left (opens_diverted k f) = of_kind Here e k (left_incoming (inc.opened_diverted_kept (with_kind 3 e) refl f) tt)
  left (alerts k f) =
      let w = as_incoming (rw k tt) in
      let q = alerts_unheld c e k n w in
      of_kind Here e k (left_incoming (inc.alerted_kept w q) (nor_l (requested c) (granted c) q))
  left (answers k f) = let r = inc.answered_kept e (as_incoming (rw k tt)) in of_kind Here e k (left_incoming r.sound r.unasked)
  left (diverts_call k f) =
      let m = rw k at n in
      let x : T (not (not (fits e.reason c) || (requested c || granted c))) = search nor_l depth 8 in
      let p : T (not (not (fits e.reason c))) = search nor_l in
      let q : T (not (requested c || granted c)) = search nor_r in
      let l : T (leb e.reason 3) = search (and_l, and_r) depth 12 in
      of_kind Here e k
      (record {
        sound = λ z. incoming_sound (inc.diverted_kept e identifier z (as_incoming (rw k tt)) (not_not (fits e.reason c) p) l q);
        request = λ _. (tt, refl {a = identifier});
      })
  left (results k f) =
      let m = rw k at n in
      let p : T (not (not (requested c))) = search nor_l depth 8 in
      of_kind Here e k (left_incoming (inc.grant_kept (as_incoming (rw k tt)) (not_not (requested c) p)) tt)
  left (rejects k f) = of_kind Here e k (left_idle c (incoming (as_incoming (rw k tt))))
  left (leg_fails k f) = of_kind Here e k (left_idle c (incoming (as_incoming (rw k tt))))
  left (clocks k f) = of_kind Here e k (left_idle c (sound_view e.time c h))
  left (ends_own k f) = of_kind Here e k (left_ended c)
  left (invokes k f) = of_kind Here e k (left_outgoing (out.rerouted_kept e (as_outgoing (rw k tt)) f))
  left (informs k f) =
      let m = rw k at n in
      let p : T (not (active c)) = search nor_l depth 8 in
      of_kind Here e k (left_outgoing (out.informed_kept e (as_outgoing (rw k tt)) f p))
  left (messages k f) = of_kind Here e k (messaged_left false k)
  left (far_ends k f) = of_kind Here e k left_free

-- "Each done event leaves a sound table": the record that the event acts on
pub act_kept : (last identifier : ℕ) (c : Call) (e : Event) → T (not (eqb identifier 0)) → T (sound_call last c) → last ≤ e.time → T (call_made e)
    → T (addressed c e) → T (not (state_forbids c e)) → T (sound_call e.time (act c e identifier).call)
act_kept last identifier c e z h l f a n = (left identifier c e (sound_later last e.time c l h) a n (made e f)).sound z

-- after an event a record is Requested only if the event is a divert, and then with the identifier that was drawn
pub act_request : (last identifier : ℕ) (c : Call) (e : Event) → T (sound_call last c) → last ≤ e.time → T (call_made e) → T (addressed c e)
    → T (not (state_forbids c e)) → T (requested (act c e identifier).call) → T (diverts e) × ((act c e identifier).call.identifier ≡ identifier)
act_request last identifier c e h l f a n = (left identifier c e (sound_later last e.time c l h) a n (made e f)).request
