-- What waits with leg 2 is what was accepted since Invoked began, in order, by the events alone; what is sent goes by it. Assumes nothing.
use Prim.Native.Nat.{ℕ, zero, suc}
use mathlib.Core.Path.{◌≡◌, refl, sym, ap, ◌∙◌}
use mathlib.Core.Bool.{true, false, not, ◌&&◌, ◌||◌, false≢true}
use mathlib.Core.List.{List, [], ◌∷◌, ◌++◌}
use native.Mathlib.Omega.{arith}
use lib.Dec.{T, eqb, leb, eqb→eq, leb→le}
use borrow.Author.Tests.{eqb-true}
use Rattle.ground.specs.Choice.{when◌then◌else◌}
use Rattle.ground.proofs.Bools.{and_l, and_r, nor_l, nor_r, is_true, is_false, by_cases, from_true, when_has}
use Rattle.ground.proofs.Walks.{and_false}
use Rattle.event.specs.declared.Event.{Event}
use Rattle.event.specs.Kinds.{cfu, cfb, cfnr, facility, alerting, connect, release_complete, on_leg2, of_outgoing}
use Rattle.notice.specs.declared.Dli1.{Dli1}
use Rattle.waits.specs.Waits.{no_dli1, room, last_after}
use Rattle.waits.specs.Soundness.{waits_hold}
use Rattle.waits.proofs.Laws.{appends}
use Rattle.waits.proofs.Counted.{room_below}
use Rattle.waits.proofs.Kept.{held}
use Rattle.call.specs.declared.Call.{Call}
use Rattle.call.specs.declared.Sent.{Sent}
use Rattle.call.specs.declared.Effect.{Effect}
use Rattle.call.specs.Record.{active, delivered, divert, invoked, wait, forwarded_party}
use Rattle.call.specs.Soundness.{sound_call}
use Rattle.call.specs.State.{addressed, message_forbids, state_forbids}
use Rattle.call.specs.Incoming.{act_incoming}
use Rattle.call.specs.Outgoing.{goes_on, turns_down, dli1_of, rerouted, cdr_idle, moved_over, with_dli3, after_message, messaged, act_outgoing}
use Rattle.call.specs.Act.{act}
use Rattle.call.specs.Told.{waiting_of, joins, accepted_after, hands_over, GoesBy}
use Rattle.call.proofs.Denials.{denied, denied_first}
use Rattle.call.proofs.Sound.{Outgoing, outgoing_of}
use Rattle.call.proofs.Kept.{to_outgoing}
use Rattle.call.proofs.Made.{Made, opens_outgoing, opens_incoming, opens_diverted, alerts, answers, diverts_call, results, rejects, leg_fails, clocks, ends_own, invokes, informs, messages, far_ends, with_kind, of_kind}

-- what a message does to the state leaves what waits
message_has : (P : List Dli1 → Type 0) (e : Event) (d : Call) → P (waiting_of d) → P (waiting_of (after_message e d))
message_has P e d p =
    when_has (λ (x : Call). P (waiting_of x)) (alerting e) (λ _. p) (λ _. when_has (λ (x : Call). P (waiting_of x)) (connect e) (λ _. p) (λ _. p))

dli3_has : (P : List Dli1 → Type 0) (e : Event) (d : Call) → P (waiting_of d) → P (waiting_of (with_dli3 d e))
dli3_has P e d p = when_has (λ (x : Call). P (waiting_of x)) (divert d) (λ _. p) (λ _. p)

-- "message 1 FACILITY, 2 ALERTING, 3 CONNECT, 4 RELEASE COMPLETE": what is neither the first nor the last
pub alerts_or_connects : (m : ℕ) → T (leb 1 m) → T (leb m 4) → T (not (eqb m 1)) → T (not (eqb m 4)) → eqb m 2 || eqb m 3 ≡ true
alerts_or_connects zero a b f n = absurd a
alerts_or_connects (suc zero) a b f n = absurd f
alerts_or_connects (suc (suc zero)) a b f n = refl
alerts_or_connects (suc (suc (suc zero))) a b f n = refl
alerts_or_connects (suc (suc (suc (suc zero)))) a b f n = absurd n
alerts_or_connects (suc (suc (suc (suc (suc m))))) a b f n = absurd (omega (arith, leb→le))

module _ (c : Call) (e : Event) (w : Outgoing c) where
  -- "CDR is Invoked only in Delivered"
  in_delivered : invoked c ≡ true → delivered c ≡ true
  in_delivered i = is_true (delivered c) (and_l (delivered c) (waits_hold c.waiting) (simp i at w.waiting))

  not_active : delivered c ≡ true → active c ≡ false
  not_active d = let b : c.basic ≡ 2 = eqb-true c.basic 2 d in rw b refl

  -- in Invoked an invoke's DLI1 begins to wait exactly where it goes on
  joins_on : invoked c ≡ true → e.kind ≡ 12 → joins (waiting_of c) c e ≡ goes_on c e
  unfolding room
  joins_on i k = rw (k, i) refl

  joins_first : invoked c ≡ false → e.kind ≡ 12 → joins (waiting_of c) c e ≡ eqb e.reason cfnr && delivered c
  joins_first i k = rw (k, i) refl

  cfnr_not : goes_on c e ≡ true → eqb e.reason cfnr ≡ false
  cfnr_not g =
      let a = from_true (goes_on c e) g in
      let t : T (eqb e.reason cfu || eqb e.reason cfb) = search (and_l, and_r) in
      by_cases (eqb e.reason cfnr) (λ y. absurd (rw (eqb-true e.reason cfnr y) at t)) (λ n. n)

  -- an invoke is turned down in Invoked exactly where its DLI1 does not begin to wait
  turned_on : invoked c ≡ true → turns_down c e ≡ not (goes_on c e)
  turned_on i =
      let d = in_delivered i in
      by_cases (goes_on c e)
      (λ g. rw (i, g, not_active d, cfnr_not g) refl)
      (λ g. rw (i, g) refl)

  turned_first : invoked c ≡ false → T (turns_down c e) → eqb e.reason cfnr && delivered c ≡ false
  turned_first i t =
      by_cases (eqb e.reason cfnr)
      (λ y. by_cases (delivered c) (λ d. absurd (rw (i, y, d, not_active d) at t)) (λ d. rw (y, d) refl))
      (λ n. rw n refl)

  rerouted_waits : e.kind ≡ 12 → waiting_of (rerouted c e).call ≡ (when joins (waiting_of c) c e then waiting_of c ++ (dli1_of e ∷ []) else waiting_of c)
  rerouted_waits k =
      let P : Effect → Type 0 = λ x. waiting_of x.call ≡ (when joins (waiting_of c) c e then waiting_of c ++ (dli1_of e ∷ []) else waiting_of c) in
      when_has P (turns_down c e)
      (λ t. by_cases (invoked c)
      (λ i. let g : goes_on c e ≡ false = is_false (goes_on c e) (rw (turned_on i) at t) in rw (joins_on i k, g) refl)
      (λ i. rw (joins_first i k, turned_first i t) refl))
      (λ t.
      let o : T (not (invoked c && not (goes_on c e))) = search (nor_l, nor_r) in
      let m : T (not (eqb e.reason cfnr && not (delivered c))) = search nor_r in
      when_has P (invoked c)
      (λ y.
      let i = is_true (invoked c) y in
      let g : T (goes_on c e) = denied (invoked c) (goes_on c e) o y in
      let h = held c.waiting (and_r (delivered c) (waits_hold c.waiting) (simp i at w.waiting)) in
      let b = room_below c.waiting h.places (search (and_l, and_r)) in
      let l = h.places in
      rw (joins_on i k, is_true (goes_on c e) g, i) (appends c.waiting (dli1_of e) (omega (arith, b, l))))
      (λ n.
      let i = is_false (invoked c) n in
      when_has P (eqb e.reason cfnr)
      (λ r. rw (joins_first i k, is_true (eqb e.reason cfnr) r, is_true (delivered c) (denied (eqb e.reason cfnr) (delivered c) m r), i) refl)
      (λ r. rw (joins_first i k, is_false (eqb e.reason cfnr) r, i) refl)))

  -- "14: .." what a message leaves: FACILITY on leg 2 is not taken, and leg 2 needs Invoked
  messaged_waits : e.kind ≡ 14 → T (not (facility e && on_leg2 e)) → T (leb 1 e.message) → T (leb e.message 4) → (T (on_leg2 e) → T (invoked c))
      → waiting_of (messaged c e).call ≡ accepted_after (waiting_of c) c e
  messaged_waits k f low high two =
      let P : Effect → Type 0 = λ x. waiting_of x.call ≡ accepted_after (waiting_of c) c e in
      when_has P (release_complete e)
      (λ r.
      let q : e.message ≡ 4 = eqb→eq e.message 4 r in
      when_has P (on_leg2 e) (λ t. rw (k, q, is_true (on_leg2 e) t) refl) (λ t.
      when_has P (invoked c) (λ i. rw (k, q, is_false (on_leg2 e) t, is_true (invoked c) i) refl) (λ i. rw (k, q, is_false (on_leg2 e) t, is_false (invoked c) i) refl)))
      (λ r. when_has P (on_leg2 e)
      (λ t.
      let i = is_true (invoked c) (two t) in
      let o : T (not (facility e)) = denied_first (facility e) (on_leg2 e) f t in
      let a = alerts_or_connects e.message low high o r in
      let n : accepted_after (waiting_of c) c e ≡ [] = rw (k, is_true (on_leg2 e) t, a, i) refl in
      rw n (message_has (λ (l : List Dli1). l ≡ []) e (with_dli3 (moved_over c) e) (dli3_has (λ (l : List Dli1). l ≡ []) e (moved_over c) refl)))
      (λ t.
      let l = is_false (on_leg2 e) t in
      let s = is_false (release_complete e) r in
      when_has (λ (d : Call). waiting_of (after_message e (with_dli3 d e)) ≡ accepted_after (waiting_of c) c e) (connect e)
      (λ y.
      let n : accepted_after (waiting_of c) c e ≡ [] = rw (k, l, s, is_true (connect e) y) refl in
      rw n (message_has (λ (m : List Dli1). m ≡ []) e (with_dli3 (cdr_idle c) e) (dli3_has (λ (m : List Dli1). m ≡ []) e (cdr_idle c) refl)))
      (λ y.
      let n : accepted_after (waiting_of c) c e ≡ waiting_of c = rw (k, l, s, is_false (connect e) y) refl in
      rw n (message_has (λ (m : List Dli1). m ≡ waiting_of c) e (with_dli3 c e) (dli3_has (λ (m : List Dli1). m ≡ waiting_of c) e c refl)))))

  -- "C's number": in Invoked leg 2's party is the last accepted number
  party_of : invoked c ≡ true → forwarded_party c ≡ last_after no_dli1 (waiting_of c)
  unfolding last_after
  party_of i = rw i refl

  rerouted_goes : e.kind ≡ 12 → GoesBy (waiting_of c) c e (rerouted c e).sent (rerouted c e).call
  unfolding last_after
  rerouted_goes k = record {
    accepts = λ y j.
        let i = is_true (invoked c) y in
        let g : goes_on c e ≡ true = is_true (goes_on c e) (rw (joins_on i k) at j) in
        let t : turns_down c e ≡ false = turned_on i ∙ ap not g in
        rw (t, i) refl;
    denies = λ y q j.
        let i = is_true (invoked c) y in
        let g : goes_on c e ≡ false = is_false (goes_on c e) (rw (joins_on i k) at j) in
        let t : turns_down c e ≡ true = turned_on i ∙ ap not g in
        (rw t refl, rw t refl);
    party = λ h. absurd (rw k at h);
  }

  -- what a message does to the state leaves the party
  party_has : (n : ℕ) (d : Call) → d.party ≡ n → (after_message e (with_dli3 d e)).party ≡ n
  party_has n d p =
      let P : Call → Type 0 = λ x. x.party ≡ n in
      let q : P (with_dli3 d e) = when_has P (divert d) (λ _. p) (λ _. p) in
      when_has P (alerting e) (λ _. q) (λ _. when_has P (connect e) (λ _. q) (λ _. q))

  messaged_party : e.kind ≡ 14 → T (hands_over c e) → (messaged c e).call.party ≡ last_after no_dli1 (waiting_of c)
  messaged_party k h =
      let P : Effect → Type 0 = λ x. x.call.party ≡ last_after no_dli1 (waiting_of c) in
      when_has P (release_complete e)
      (λ r.
      let q : e.message ≡ 4 = eqb→eq e.message 4 r in
      when_has P (on_leg2 e) (λ t. absurd (rw (k, q, is_true (on_leg2 e) t) at h)) (λ t.
      when_has P (invoked c) (λ i. party_of (is_true (invoked c) i)) (λ i. absurd (rw (k, q, is_false (on_leg2 e) t, is_false (invoked c) i) at h))))
      (λ r. when_has P (on_leg2 e)
      (λ t. by_cases (invoked c)
      (λ i. party_has (last_after no_dli1 (waiting_of c)) (moved_over c) (party_of i))
      (λ i. absurd (rw (k, is_true (on_leg2 e) t, i, and_false (alerting e || connect e)) at h)))
      (λ t. absurd (rw (k, is_false (on_leg2 e) t, is_false (release_complete e) r) at h)))

-- an event that neither is an invoke nor hands over, by its kind
elsewhere : {accepted : List Dli1} {c d : Call} {e : Event} {sent : Sent} {n : ℕ} → e.kind ≡ n → eqb n 12 ≡ false → eqb n 14 ≡ false
    → GoesBy accepted c e sent d
elsewhere {e = e} k p q =
    let i : eqb e.kind 12 ≡ false = rw k p in
    let m : eqb e.kind 14 ≡ false = rw k q in
    record { accepts = λ _ t. absurd (rw i at t); denies = λ _ z. absurd (false≢true (sym (rw z at i))); party = λ t. absurd (rw m at t) }

module _ (last identifier : ℕ) (c : Call) (e : Event) (h : T (sound_call last c)) (a : T (addressed c e)) (n : T (not (state_forbids c e))) where
  outgoing_here : T (of_outgoing e) → Outgoing c
  outgoing_here t = outgoing_of last c h (to_outgoing c e a t)

  -- shown of the event with its kind's number written out, where `act` is that kind's rule
  abbrev Waits : Event → Type 0
  Waits x = waiting_of (act c x identifier).call ≡ accepted_after (waiting_of c) c x

  waits : Made e → Waits e
  unfolding act act_incoming act_outgoing state_forbids
  waits (opens_outgoing k f) = of_kind Waits e k refl
  waits (opens_incoming k f) = of_kind Waits e k refl
  waits (opens_diverted k f) = of_kind Waits e k refl
  waits (alerts k f) = of_kind Waits e k refl
  waits (answers k f) = of_kind Waits e k (when_has (λ (x : Effect). waiting_of x.call ≡ waiting_of c) (wait c) (λ _. refl) (λ _. refl))
  waits (diverts_call k f) = of_kind Waits e k refl
  waits (results k f) = of_kind Waits e k refl
  waits (rejects k f) = of_kind Waits e k refl
  waits (leg_fails k f) = of_kind Waits e k refl
  waits (clocks k f) = of_kind Waits e k refl
  waits (ends_own k f) = of_kind Waits e k (when_has (λ (x : Effect). waiting_of x.call ≡ []) (invoked c) (λ _. refl) (λ _. refl))
  waits (invokes k f) = of_kind Waits e k (rerouted_waits c (with_kind 12 e) (outgoing_here (rw k tt)) refl)
  waits (informs k f) = of_kind Waits e k refl
  waits (messages k f) =
      let u : T (not (message_forbids c e)) = rw k at n in
      let q : T (not (on_leg2 e && not (invoked c))) = search (nor_l, nor_r) depth 8 in
      let o : T (not (facility e && on_leg2 e)) = search (nor_l, nor_r) depth 8 in
      let low : T (leb 1 e.message) = search (and_l, and_r) depth 16 in
      let high : T (leb e.message 4) = search (and_l, and_r) depth 16 in
      of_kind Waits e k (messaged_waits c (with_kind 14 e) (outgoing_here (rw k tt)) refl o low high (denied (on_leg2 e) (invoked c) q))
  waits (far_ends k f) = of_kind Waits e k refl

  abbrev Goes : Event → Type 0
  Goes x = GoesBy (waiting_of c) c x (act c x identifier).sent (act c x identifier).call

  invoke_goes : e.kind ≡ 12 → Goes e
  unfolding act act_outgoing
  invoke_goes k = of_kind Goes e k (rerouted_goes c (with_kind 12 e) (outgoing_here (rw k tt)) refl)

  message_goes : e.kind ≡ 14 → Goes e
  unfolding act act_outgoing
  message_goes k =
      let p = messaged_party c (with_kind 14 e) (outgoing_here (rw k tt)) refl in
      of_kind Goes e k (record { accepts = λ _ j. absurd j; denies = λ _ z. absurd (omega (arith, z)); party = p })

  goes : Made e → Goes e
  goes (opens_outgoing k f) = elsewhere k refl refl
  goes (opens_incoming k f) = elsewhere k refl refl
  goes (opens_diverted k f) = elsewhere k refl refl
  goes (alerts k f) = elsewhere k refl refl
  goes (answers k f) = elsewhere k refl refl
  goes (diverts_call k f) = elsewhere k refl refl
  goes (results k f) = elsewhere k refl refl
  goes (rejects k f) = elsewhere k refl refl
  goes (leg_fails k f) = elsewhere k refl refl
  goes (clocks k f) = elsewhere k refl refl
  goes (ends_own k f) = elsewhere k refl refl
  goes (invokes k f) = invoke_goes k
  goes (informs k f) = elsewhere k refl refl
  goes (messages k f) = message_goes k
  goes (far_ends k f) = elsewhere k refl refl

pub act_waits : (last identifier : ℕ) (accepted : List Dli1) (c : Call) (e : Event) → T (sound_call last c) → T (addressed c e) → T (not (state_forbids c e)) → Made e
    → waiting_of c ≡ accepted → waiting_of (act c e identifier).call ≡ accepted_after accepted c e
act_waits last identifier accepted c e h a n m w = waits last identifier c e h a n m ∙ ap (λ l. accepted_after l c e) w

pub act_goes : (last identifier : ℕ) (accepted : List Dli1) (c : Call) (e : Event) → T (sound_call last c) → T (addressed c e) → T (not (state_forbids c e)) → Made e
    → waiting_of c ≡ accepted → GoesBy accepted c e (act c e identifier).sent (act c e identifier).call
act_goes last identifier accepted c e h a n m w = rw (← w) (goes last identifier c e h a n m)
