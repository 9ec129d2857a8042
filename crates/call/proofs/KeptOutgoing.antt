-- What the rules for outgoing calls make of a sound record is sound. Assumes nothing.
use Prim.Native.Nat.{ℕ, min}
use native.Mathlib.Omega.{arith}
use mathlib.Core.Path.{◌≡◌}
use mathlib.Core.Bool.{Bool, true, false, not, ◌&&◌}
use mathlib.Core.List.{List, [], ◌∷◌}
use lib.Dec.{T, leb, eqb, eqb→eq, leb→le, le→leb, T_not}
use Rattle.ground.specs.Choice.{when◌then◌else◌, exactly}
use Rattle.ground.specs.Lists.{all}
use Rattle.ground.proofs.Bools.{and_l, and_r, and_i, or_inl, nor_l, nor_r, is_true, is_false, by_cases, when_has, trivial}
use Rattle.event.specs.declared.Event.{Event}
use Rattle.event.specs.Kinds.{cfnr, alerting, connect}
use Rattle.event.specs.WellMade.{open_fields, rerouting_fields, dli1_fields}
use Rattle.notice.specs.declared.Dli1.{Dli1}
use Rattle.notice.specs.declared.History.{History}
use Rattle.notice.specs.Notice.{seen, strictest_with, take_dli1, after_dli1, after_dli3}
use Rattle.waits.specs.Waits.{waits_for, behind, waits_with, room, after_all, take_all}
use Rattle.waits.specs.Soundness.{first_holds, later_holds, waits_hold, waits_unused}
use Rattle.waits.proofs.Kept.{none_unused, for_holds, with_holds, Held, held}
use Rattle.call.specs.declared.Call.{Call}
use Rattle.call.specs.declared.Effect.{Effect}
use Rattle.call.specs.Record.{active, delivered, divert, invoked, forwarded_party}
use Rattle.call.specs.Fields.{basic_is, cdo_is, cdr_is, party_is, waiting_is, history_is}
use Rattle.call.specs.Soundness.{waiting_holds, history_holds}
use Rattle.call.specs.Outgoing.{opened_outgoing, dli1_of, to_cdo, cdr_idle, moved_over, with_dli3, after_message, goes_on, turns_down, rerouted, informed, taken_over, on_first_leg, leg2_remains}
use Rattle.call.proofs.Denials.{denied, never}
use Rattle.call.proofs.Sound.{Outgoing}

-- a decision whose first value is not chosen
off : (b x y : Bool) → T (not b) → T y → T (when b then x else y)
off true x y n t = absurd n
off false x y n t = t

ruleset joins = (and_l, and_r, and_i, or_inl, never, trivial, none_unused)

-- "CDR Idle": nothing waits any more
pub cdr_idle_kept : {c : Call} → Outgoing c → Outgoing (cdr_idle c)
cdr_idle_kept w = search joins depth 12

still_waits : (c : Call) → T (waiting_holds c) → T (waiting_holds (basic_is 2 c))
still_waits c h = by_cases (invoked c) (λ i. let t = simp i at h in simp i (search joins depth 8)) (λ i. simp i (simp i at h))

-- "ALERTING gives Delivered"
delivered_kept : {c : Call} → Outgoing c → T (not (active c)) → Outgoing (basic_is 2 c)
delivered_kept {c} w n =
    let d = simp (is_false (active c) n) at w.divert in
    let t = still_waits c w.waiting in
    search joins depth 12

-- "Proceeding"
proceeding_kept : {c : Call} → Outgoing c → T (not (active c)) → T (not (invoked c)) → Outgoing (basic_is 1 c)
proceeding_kept {c} w n i =
    let d = simp (is_false (active c) n) at w.divert in
    let z : T (waits_unused c.waiting) = simp (is_false (invoked c) i) at w.waiting in
    search (joins, off) depth 12

-- "CONNECT Active and, after its DLI3, CDO Idle"
active_kept : {c : Call} → Outgoing c → T (not (invoked c)) → Outgoing (basic_is 3 (cdo_is 0 c))
active_kept {c} w i =
    let z : T (waits_unused c.waiting) = simp (is_false (invoked c) i) at w.waiting in
    search (joins, off) depth 12

-- "now leg 1", "leg 2 becomes leg 1"
party_kept : {c : Call} (party : ℕ) → Outgoing c → T (not (eqb party 0)) → Outgoing (party_is party c)
party_kept party w p = search joins depth 12

-- the option and the number of a DLI1 are in range
record InRange (d : Dli1) : Type 0 where
  option : T (leb d.option 2)
  number : T (not (eqb d.number 0))

-- "SETUP with DLI2 on leg 2, Invoked."
waiting_kept : {c : Call} (d : Dli1) → Outgoing c → InRange d → T (eqb d.reason cfnr) → T (delivered c) → Outgoing (cdr_is 1 (waiting_is (waits_for d) c))
waiting_kept d w n r b =
    let f : T (first_holds d) = search joins depth 8 in
    let h = for_holds d f in
    search joins depth 12

-- document 02, Six: "Each waiting DLI1 is kept": one more waits
waiting_more_kept : {c : Call} (d : Dli1) → Outgoing c → T (invoked c) → T (room c.waiting) → T (later_holds d)
    → Outgoing (waiting_is (waits_with c.waiting d) c)
waiting_more_kept {c} d w i r p =
    let q = is_true (invoked c) i in
    let u = simp q at w.waiting in
    let h = with_holds c.waiting d r (and_r (delivered c) (waits_hold c.waiting) u) p in
    let v : T (waiting_holds (waiting_is (waits_with c.waiting d) c)) = simp q (search joins depth 8) in
    search

-- "strictest option": with one more it stays in range
stricter : (h : History) (option : ℕ) → T (leb option 2) → T (leb (strictest_with h option) 2)
stricter h option l =
    when_has (λ n. T (leb n 2)) (seen h) (λ _. let m = leb→le option 2 l in le→leb (min h.strictest option) 2 (omega arith)) (λ _. l)

zero_mark : (n : ℕ) → T (eqb n 0) → T (leb n 1)
zero_mark n z = rw (eqb→eq n 0 z) tt

-- the marks are 0 or 1
marks : (h : History) → T (history_holds h) → T (leb h.forbidden 1 && leb h.shown 1)
marks h t = by_cases (seen h) (λ s. let u = simp s at t in search joins depth 8) (λ s. let u = simp s at t in search (joins, zero_mark) depth 8)

-- a mark that a test clears
cleared : (b : Bool) (n : ℕ) → T (leb n 1) → T (leb (when b then 0 else n) 1)
cleared true n l = tt
cleared false n l = l

-- "DLI1: CDO Divert."
dli1_kept : {c : Call} (d : Dli1) → Outgoing c → InRange d → T (not (active c)) → Outgoing (to_cdo (take_dli1 c.history d) c)
dli1_kept {c} d w n a =
    let m = marks c.history w.history in
    let s = stricter c.history d.option n.option in
    search (joins, cleared) depth 12

-- and those behind it
later_kept : (c : Call) (h : History) (l : List Dli1) → Outgoing (cdo_is 1 (history_is h c)) → T (not (active c)) → T (all later_holds l)
    → Outgoing (cdo_is 1 (history_is (after_all h l) c))
unfolding all after_all
later_kept c h [] w a t = w
later_kept c h (d ∷ l) w a t =
    let k : T (later_holds d) = and_l (later_holds d) (all later_holds l) t in
    let n : InRange d = search joins depth 8 in
    later_kept c (after_dli1 h d) l (dli1_kept {c = cdo_is 1 (history_is h c)} d w n a) a (and_r (later_holds d) (all later_holds l) t)

mark : (b : Bool) (n : ℕ) → T (leb n 1) → T (leb (when b then 1 else n) 1)
mark true n l = tt
mark false n l = l

-- "CDO is Divert exactly when a DLI1 was seen"
divert_seen : (d s a : Bool) → T (exactly d (s && not a)) → T d → T s
divert_seen true true a h t = tt
divert_seen true false a h t = h
divert_seen false s a h t = absurd t

-- "DLI3 in Divert"
dli3_kept : {c : Call} (flag : ℕ) → Outgoing c → T (divert c) → Outgoing (history_is (after_dli3 c.history flag) c)
dli3_kept {c} flag w d =
    let q = is_true (seen c.history) (divert_seen (divert c) (seen c.history) (active c) w.divert d) in
    let u = simp q at w.history in
    let v : T (history_holds (after_dli3 c.history flag)) = simp q (search (joins, mark) depth 12) in
    search

-- a record that takes FACILITY, ALERTING or CONNECT
record Ready (e : Event) (c : Call) : Type 0 where
  sound : Outgoing c
  inactive : T (not (active c))
  alone : T (connect e) → T (not (invoked c))

dli3_ready : (e : Event) (c : Call) → Ready e c → Ready e (with_dli3 c e)
dli3_ready e c r =
    when_has (Ready e) (divert c) (λ d. record { sound = dli3_kept e.flag r.sound d; inactive = r.inactive; alone = r.alone }) (λ _. r)

-- the message's DLI3, then what the message does to the state
message_kept : (e : Event) (c : Call) → Ready e c → Outgoing (after_message e (with_dli3 c e))
message_kept e c r = let q = dli3_ready e c r in
    when_has Outgoing (alerting e) (λ _. delivered_kept q.sound q.inactive) (λ _.
    when_has Outgoing (connect e) (λ t. active_kept q.sound (q.alone t)) (λ _. q.sound))

-- what Invoked holds
record Waits (c : Call) : Type 0 where
  inactive : T (not (active c))
  hold : Held c.waiting

waits : {c : Call} → Outgoing c → T (invoked c) → Waits c
waits {c} w i =
    let u = simp (is_true (invoked c) i) at w.waiting in
    let b : c.basic ≡ 2 = search (joins, eqb→eq) depth 8 in
    record { inactive = rw b tt; hold = held c.waiting (and_r (delivered c) (waits_hold c.waiting) u) }

-- "leg 2 becomes leg 1, CDR Idle, DLI1 to the CDO"
moved_kept : {c : Call} → Outgoing c → T (invoked c) → Outgoing (moved_over c)
unfolding take_all
moved_kept {c} w i =
    let s = waits w i in
    let first = c.waiting.first in
    let f = s.hold.first in
    let n : InRange first = search joins depth 8 in
    let l = later_kept c (after_dli1 c.history first) (behind c.waiting) (dli1_kept first w n s.inactive) s.inactive s.hold.later in
    cdr_idle_kept (party_kept (forwarded_party c) l s.hold.party)

-- the record that an effect leaves
abbrev pub Leaves : Effect → Type 0
Leaves x = Outgoing x.call

-- "In Invoked, ALERTING or CONNECT on leg 2"
pub taken_over_kept : {c : Call} (e : Event) → Outgoing c → T (invoked c) → Leaves (taken_over c e)
taken_over_kept {c} e w i = message_kept e (moved_over c) (record { sound = moved_kept w i; inactive = (waits w i).inactive; alone = λ _. tt })

-- FACILITY, ALERTING or CONNECT on leg 1
pub first_leg_kept : {c : Call} (e : Event) → Outgoing c → T (not (active c)) → Leaves (on_first_leg c e)
first_leg_kept {c} e w a = message_kept e (when connect e then cdr_idle c else c)
    (when_has (Ready e) (connect e)
    (λ _. record { sound = cdr_idle_kept w; inactive = a; alone = λ _. tt })
    (λ n. record { sound = w; inactive = a; alone = λ t. absurd (T_not (connect e) n t) }))

-- "RELEASE on leg 1: leg 2 becomes leg 1, Proceeding"
pub leg2_remains_kept : {c : Call} → Outgoing c → T (invoked c) → Leaves (leg2_remains c)
leg2_remains_kept w i = proceeding_kept (moved_kept w i) (waits w i).inactive tt

-- "12: .."
pub rerouted_kept : {c : Call} (e : Event) → Outgoing c → T (rerouting_fields e) → Leaves (rerouted c e)
rerouted_kept {c} e w f =
    let d : InRange (dli1_of e) = search joins depth 12 in
    when_has Leaves (turns_down c e) (λ _. w) (λ n.
    let a : T (not (active c)) = search (nor_l, nor_r) in
    let o : T (not (invoked c && not (goes_on c e))) = search (nor_l, nor_r) in
    let m : T (not (eqb e.reason cfnr && not (delivered c))) = search nor_r in
    when_has Leaves (invoked c)
    (λ i.
    let g : T (goes_on c e) = denied (invoked c) (goes_on c e) o i in
    let l : T (later_holds (dli1_of e)) = search joins depth 12 in
    waiting_more_kept (dli1_of e) w i (search joins depth 8) l)
    (λ i. when_has Leaves (eqb e.reason cfnr)
    (λ r. waiting_kept (dli1_of e) w d r (denied (eqb e.reason cfnr) (delivered c) m r))
    (λ _. proceeding_kept (party_kept e.second (dli1_kept (dli1_of e) w d a) d.number) a i)))

-- "13: .."
pub informed_kept : {c : Call} (e : Event) → Outgoing c → T (dli1_fields e) → T (not (active c)) → Leaves (informed c e)
informed_kept {c} e w f a = let d : InRange (dli1_of e) = search joins depth 12 in dli1_kept (dli1_of e) w d a

-- "An open starts in Proceeding, services Idle"
pub opened_kept : (e : Event) → T (open_fields e) → Outgoing (opened_outgoing e)
opened_kept e f = search joins depth 14
