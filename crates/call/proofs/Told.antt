-- What the caller learns at an event goes by the list of the DLI1 and DLI3 that the call took account of, and the stored history
-- is that list's. Assumes nothing.
use Prim.Native.Nat.{ℕ, zero, suc, ◌≤◌}
use mathlib.Core.Path.{◌≡◌, refl, ap}
use mathlib.Core.Bool.{Bool, true, false, not, ◌&&◌, ◌||◌}
use mathlib.Core.List.{List, [], ◌∷◌, ◌++◌}
use native.Mathlib.Omega.{arith}
use lib.Dec.{T, leb, eqb, eqb→eq, leb→le, T_not}
use Rattle.ground.specs.Choice.{when◌then◌else◌}
use Rattle.ground.proofs.Bools.{and_l, and_r, or_left, or_right, nor_l, nor_r, is_true, is_false, from_true, from_false, by_cases, when_has}
use Rattle.ground.proofs.Walks.{and_false}
use Rattle.event.specs.declared.Event.{Event}
use Rattle.event.specs.Kinds.{cfnr, facility, alerting, connect, release_complete, on_leg2, opens, of_outgoing}
use Rattle.event.specs.WellMade.{rerouting_fields, dli1_fields, message_fields, call_made}
use Rattle.notice.specs.declared.History.{History}
use Rattle.notice.specs.Notice.{no_notice, no_number, no_history, seen, number_shown, after_dli3}
use Rattle.notice.specs.Whole.{Told, dli1, diverted}
use Rattle.notice.specs.declared.Dli1.{Dli1}
use Rattle.waits.specs.Waits.{dli1s}
use Rattle.waits.specs.Soundness.{waits_hold}
use Rattle.waits.proofs.Kept.{Held, held}
use Rattle.call.specs.declared.Call.{Call}
use Rattle.call.specs.declared.Sent.{Sent}
use Rattle.call.specs.declared.Effect.{Effect}
use Rattle.call.specs.Record.{is_free, active, delivered, divert, invoked, wait, free_call}
use Rattle.call.specs.Soundness.{sound_call}
use Rattle.call.specs.State.{addressed, message_forbids, state_forbids}
use Rattle.call.specs.Incoming.{act_incoming}
use Rattle.call.specs.Outgoing.{dli1_of, turns_down, rerouted, cdr_idle, moved_over, with_dli3, after_message, taken_over, on_first_leg, messaged, act_outgoing}
use Rattle.call.specs.Act.{act}
use Rattle.call.specs.Told.{dli3_of, latest_first, carries_over, waiting_of, message_tells, tells, Remembers, Learns, TellsOf}
use Rattle.call.proofs.Denials.{denied, denied_first}
use Rattle.call.proofs.Sound.{Outgoing, outgoing_of, free_of}
use Rattle.call.proofs.Made.{Made, opens_outgoing, opens_incoming, opens_diverted, alerts, answers, diverts_call, results, rejects, leg_fails, clocks, ends_own, invokes, informs, messages, far_ends, made, of_kind}
use Rattle.call.proofs.Kept.{to_outgoing, act_kept}
use Rattle.call.proofs.Heard.{Heard, Ranged, none_told, learns_none, diverted_seen, heard_dli1, Flagged, flagged, heard_message, heard_waits, heard_both}
use Rattle.call.proofs.Waits.{alerts_or_connects, act_waits, act_goes}

-- what an event does that told `new`; an open and a freed record end the list
record Hears (l new : List Told) (opening : Bool) (x : Effect) : Type 0 where
  learns : Learns l new x.notice x.number
  kept : T (not (opening || is_free x.call)) → Remembers (new ++ l) x.call.history

-- "ALERTING gives Delivered, CONNECT Active": the history stays
message_history : (P : History → Type 0) (e : Event) (c : Call) → P c.history → P (after_message e c).history
message_history P e c p =
    when_has (λ (d : Call). P d.history) (alerting e) (λ _. p) (λ _. when_has (λ (d : Call). P d.history) (connect e) (λ _. p) (λ _. p))

-- two decisions by one test
when_two : {A B : Type 0} (R : A → B → Type 0) (b : Bool) {x y : A} {u v : B} → (b ≡ true → R x u) → R y v → R (when b then x else y) (when b then u else v)
when_two R true p q = p refl
when_two R false p q = q

-- "reason 1 to 3": what is not cfnr
not_cfnr : (r : ℕ) → T (leb 1 r) → T (leb r 3) → T (not (eqb r 3)) → eqb r 1 || eqb r 2 ≡ true
not_cfnr zero a b n = absurd a
not_cfnr (suc zero) a b n = refl
not_cfnr (suc (suc zero)) a b n = refl
not_cfnr (suc (suc (suc zero))) a b n = absurd n
not_cfnr (suc (suc (suc (suc r)))) a b n = absurd (omega (arith, leb→le))

-- an effect that tells nothing and leaves the history
quiet : {l : List Told} {opening : Bool} {c : Call} {sent : Sent} {identifier counter : ℕ} → Remembers l c.history
    → Hears l [] opening (record { call = c; sent = sent; notice = no_notice; number = no_number; identifier = identifier; counter = counter })
quiet {l} m = record { learns = learns_none l; kept = λ _. m }

-- an effect that frees the record
freed : {l : List Told} {opening : Bool} {sent : Sent} {identifier counter : ℕ}
    → Hears l [] opening (record { call = free_call; sent = sent; notice = no_notice; number = no_number; identifier = identifier; counter = counter })
freed {l} {opening} = record { learns = learns_none l; kept = λ n. absurd (nor_r opening true n) }

-- an open: its record's list begins
begun : {l : List Told} {c : Call} {sent : Sent} {identifier counter : ℕ}
    → Hears l [] true (record { call = c; sent = sent; notice = no_notice; number = no_number; identifier = identifier; counter = counter })
begun {l} = record { learns = learns_none l; kept = λ n. absurd n }

module _ {l : List Told} (c : Call) (e : Event) (m : Remembers l c.history) (w : Outgoing c) where
  -- "CDO is Divert exactly when a DLI1 was seen"
  divert_told : divert c ≡ true → T (diverted l)
  divert_told v =
      let u : T ((seen c.history && not (active c)) || false) = rw v at w.divert in
      diverted_seen m (and_l (seen c.history) (not (active c)) (or_left (seen c.history && not (active c)) false (λ z. z) u))

  -- "in Invoked also the forwarded party (leg 2), option and reason", and all that wait
  waiting_held : invoked c ≡ true → Held c.waiting
  waiting_held i =
      let u = simp i at w.waiting in
      held c.waiting (and_r (delivered c) (waits_hold c.waiting) u)

  -- "12: .."
  rerouted_hears : T (rerouting_fields e) → Hears l (when carries_over c e then dli1 (dli1_of e) ∷ [] else []) false (rerouted c e)
  rerouted_hears f =
      let d : Ranged (dli1_of e) = search (and_l, and_r) depth 12 in
      let low : T (leb 1 e.reason) = search (and_l, and_r) depth 12 in
      let x = heard_dli1 m (dli1_of e) d in
      let Rule : Effect → Type 0 = Hears l (when carries_over c e then dli1 (dli1_of e) ∷ [] else []) false in
      let by : Bool = eqb e.reason 1 || eqb e.reason 2 in
      let turned-off : T (turns_down c e) → carries_over c e ≡ false = λ t.
      by_cases (invoked c) (λ i. rw (i, and_false by) refl) (λ i.
      by_cases (active c) (λ y. rw (y, and_false (by && not (invoked c))) refl) (λ y.
      let r : T (eqb e.reason cfnr) = and_l (eqb e.reason cfnr) (not (delivered c)) (rw (i, y) at t) in
      rw (eqb→eq e.reason cfnr r) refl)) in
      when_has Rule (turns_down c e) (λ t. let z : carries_over c e ≡ false = turned-off t in rw z (quiet m)) (λ t.
      when_has Rule (invoked c) (λ i. let z : carries_over c e ≡ false = rw (is_true (invoked c) i, and_false by) in rw z (quiet m)) (λ i.
      when_has Rule (eqb e.reason cfnr) (λ r. let z : carries_over c e ≡ false = rw (eqb→eq e.reason cfnr r) in rw z (quiet m)) (λ r.
      let o : T (not (active c)) = search (nor_l, nor_r) in
      let z : carries_over c e ≡ true = rw (is_false (active c) o, is_false (invoked c) i, not_cfnr e.reason low d.reason r) refl in
      rw z (record { learns = x.learns; kept = λ _. x.remembers }))))

  -- FACILITY, ALERTING or CONNECT on leg 1
  first_hears : Flagged e.flag → Hears l (when divert c then dli3_of e.flag e.second else []) false (on_first_leg c e)
  first_hears g =
      let x : divert c ≡ true → Heard l (dli3_of e.flag e.second) (after_dli3 c.history e.flag) no_notice (number_shown c.history e.flag e.second) =
      λ v. heard_message e.second g m (divert_told v) in
      let Kept : List Told → Call → Type 0 = λ new d. Remembers (new ++ l) d.history in
      let new : List Told = when divert c then dli3_of e.flag e.second else [] in
      let P : History → Type 0 = Remembers (new ++ l) in
      record {
        learns = when_two (λ new n. Learns l new no_notice n) (divert c) (λ v. (x v).learns) (learns_none l);
        kept = λ _. when_has (λ d. P (after_message e (with_dli3 d e)).history) (connect e)
            (λ _. message_history P e (with_dli3 (cdr_idle c) e) (when_two Kept (divert c) (λ v. (x v).remembers) m))
            (λ _. message_history P e (with_dli3 c e) (when_two Kept (divert c) (λ v. (x v).remembers) m));
      }

  -- "In Invoked, ALERTING or CONNECT on leg 2"
  taken_hears : Flagged e.flag → invoked c ≡ true → Hears l (dli3_of e.flag e.second ++ latest_first (dli1s c.waiting)) false (taken_over c e)
  taken_hears g i =
      let x = heard_both c.waiting e.second (waiting_held i) g m in
      let P : History → Type 0 = Remembers ((dli3_of e.flag e.second ++ latest_first (dli1s c.waiting)) ++ l) in
      record { learns = x.learns; kept = λ _. message_history P e (with_dli3 (moved_over c) e) x.remembers }

  -- "14: .."
  messaged_hears : T (message_fields e) → T (not (facility e && on_leg2 e)) → T (not (on_leg2 e && not (invoked c)))
      → Hears l (message_tells (dli1s c.waiting) c e) false (messaged c e)
  messaged_hears f p q =
      let g : Flagged e.flag = flagged e.flag (search (and_l, and_r) depth 16) in
      let low : T (leb 1 e.message) = search (and_l, and_r) depth 16 in
      let high : T (leb e.message 4) = search (and_l, and_r) depth 16 in
      let unmarked : T (not (eqb e.message 4) || eqb e.flag 0) = search (and_l, and_r) depth 16 in
      let Rule : Effect → Type 0 = Hears l (message_tells (dli1s c.waiting) c e) false in
      when_has Rule (release_complete e)
      (λ r.
      let k : e.message ≡ 4 = eqb→eq e.message 4 r in
      let z : e.flag ≡ 0 = eqb→eq e.flag 0 (rw k at unmarked) in
      when_has Rule (on_leg2 e) (λ t. let n : message_tells (dli1s c.waiting) c e ≡ [] = rw (k, eqb→eq e.leg 2 t) in rw n (quiet m)) (λ t.
      when_has Rule (invoked c)
      (λ i.
      let x = heard_waits c.waiting (waiting_held (is_true (invoked c) i)) m in
      let n : message_tells (dli1s c.waiting) c e ≡ latest_first (dli1s c.waiting) = rw (k, is_false (on_leg2 e) t, is_true (invoked c) i) in
      rw n (record { learns = x.learns; kept = λ _. x.remembers }))
      (λ i.
      let n : message_tells (dli1s c.waiting) c e ≡ [] = rw (k, z, is_false (on_leg2 e) t, is_false (invoked c) i) (when_has (λ (new : List Told). new ≡ []) (divert c) (λ _. refl) (λ _. refl)) in
      rw n freed)))
      (λ r. when_has Rule (on_leg2 e)
      (λ t.
      let i = is_true (invoked c) (denied (on_leg2 e) (invoked c) q t) in
      let o : T (not (facility e)) = denied_first (facility e) (on_leg2 e) p t in
      let n : message_tells (dli1s c.waiting) c e ≡ dli3_of e.flag e.second ++ latest_first (dli1s c.waiting) =
      rw (is_true (on_leg2 e) t, alerts_or_connects e.message low high o r, i) in
      rw n (taken_hears g i))
      (λ t. rw (is_false (on_leg2 e) t, is_false (release_complete e) r) (first_hears g)))

module _ (last identifier : ℕ) (l : List Told) (c : Call) (e : Event) (h : T (sound_call last c)) (a : T (addressed c e)) (n : T (not (state_forbids c e)))
    (m : Remembers l c.history) where
  as_outgoing : T (of_outgoing e) → Outgoing c
  as_outgoing t = outgoing_of last c h (to_outgoing c e a t)

  -- shown of the event with its kind's number written out, where `act` is that kind's rule
  abbrev Here : Event → Type 0
  Here x = Hears l (tells (dli1s c.waiting) c x) (opens x) (act c x identifier)

  rerouted_here : e.kind ≡ 12 → T (rerouting_fields e) → Here e
  unfolding act act_outgoing tells
  rerouted_here k f = of_kind Here e k (rerouted_hears c e m (as_outgoing (rw k tt)) f)

  informed_here : e.kind ≡ 13 → T (dli1_fields e) → Here e
  unfolding act act_outgoing tells
  informed_here k f =
      let d : Ranged (dli1_of e) = search (and_l, and_r) depth 12 in
      let x = heard_dli1 m (dli1_of e) d in
      of_kind Here e k (record { learns = x.learns; kept = λ _. x.remembers })

  messaged_here : e.kind ≡ 14 → T (message_fields e) → Here e
  unfolding act act_outgoing tells state_forbids
  messaged_here k f =
      let u : T (not (message_forbids c e)) = rw k at n in
      let p : T (not (facility e && on_leg2 e)) = search (nor_l, nor_r) depth 8 in
      let q : T (not (on_leg2 e && not (invoked c))) = search (nor_l, nor_r) depth 8 in
      of_kind Here e k (messaged_hears c e m (as_outgoing (rw k tt)) f p q)

  hears : Made e → Here e
  unfolding act act_incoming tells
  hears (opens_outgoing k f) = of_kind Here e k begun
  hears (opens_incoming k f) = of_kind Here e k begun
  hears (opens_diverted k f) = of_kind Here e k begun
  hears (alerts k f) = of_kind Here e k (quiet m)
  hears (answers k f) = of_kind Here e k (when_has (Hears l [] false) (wait c) (λ _. quiet m) (λ _. quiet m))
  hears (diverts_call k f) = of_kind Here e k (quiet m)
  hears (results k f) = of_kind Here e k (quiet m)
  hears (rejects k f) = of_kind Here e k (quiet m)
  hears (leg_fails k f) = of_kind Here e k (quiet m)
  hears (clocks k f) = of_kind Here e k (quiet m)
  hears (ends_own k f) = of_kind Here e k (when_has (Hears l [] false) (invoked c) (λ _. freed) (λ _. freed))
  hears (invokes k f) = rerouted_here k f
  hears (informs k f) = informed_here k f
  hears (messages k f) = messaged_here k f
  hears (far_ends k f) = of_kind Here e k freed

-- an open starts with no history
open_history : (identifier : ℕ) (c : Call) (e : Event) → T (opens e) → (act c e identifier).call.history ≡ no_history
unfolding act
open_history identifier c e t =
    rw (is_true (opens e) t) (when_has (λ (x : Effect). x.call.history ≡ no_history) (eqb e.kind 1) (λ _. refl) (λ _. refl))

-- what an event tells hangs on what waits only in Invoked
tells_same : (accepted : List Dli1) (c : Call) (e : Event) → waiting_of c ≡ accepted → tells (dli1s c.waiting) c e ≡ tells accepted c e
unfolding tells
tells_same accepted c e w =
    by_cases (invoked c)
    (λ y. rw (rw y at w))
    (λ n. rw (n, and_false (on_leg2 e && (alerting e || connect e)), and_false (not (on_leg2 e) && release_complete e)))

-- an event that a sound record takes
pub act_told : (last identifier : ℕ) (l : List Told) (accepted : List Dli1) (c : Call) (e : Event) → T (not (eqb identifier 0)) → T (sound_call last c)
    → last ≤ e.time → T (call_made e) → T (addressed c e) → T (not (state_forbids c e)) → Remembers l c.history → waiting_of c ≡ accepted
    → TellsOf l accepted c e (act c e identifier)
act_told last identifier l accepted c e z h t f a n m w =
    let d : Call = (act c e identifier).call in
    let x : Hears l (tells accepted c e) (opens e) (act c e identifier) = rw (tells_same accepted c e w) at (hears last identifier l c e h a n m (made e f)) in
    let empty : T (opens e || is_free d) → d.history ≡ no_history = λ o.
    by_cases (opens e) (λ y. open_history identifier c e (from_true (opens e) y))
    (λ y. ap (λ (x : Call). x.history) (free_of e.time d (act_kept last identifier c e z h t f a n) (or_right (opens e) (is_free d) (T_not (opens e) (from_false (opens e) y)) o))) in
    record {
      learns = x.learns;
      remembers = when_has (λ (z : List Told). Remembers z d.history) (opens e || is_free d) (λ o. rw (empty o) none_told) x.kept;
      waits = act_waits last identifier accepted c e h a n (made e f) w;
      goes = act_goes last identifier accepted c e h a n (made e f) w;
    }
