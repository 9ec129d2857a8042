-- Document 02, Eight: for each event and each basic state that the table leaves to it, a sound record that takes it. Assumes nothing.
use Prim.Native.Nat.{ℕ}
use native.Mathlib.Omega.{arith}
use mathlib.Core.Path.{refl, sym}
use mathlib.Core.Bool.{true, not, ◌&&◌, ◌||◌}
use lib.Dec.{T, leb, eqb→eq, leb→le, T_not, not_T}
use borrow.Author.Tests.{eqb-false}
use Rattle.ground.specs.Lists.{all}
use Rattle.ground.proofs.Bools.{and_l, and_r, and_i, nor_l, nor_r, not_not, is_true, is_false, from_true, from_false, by_cases, trivial}
use Rattle.ground.proofs.Walks.{and_false}
use Rattle.event.specs.declared.Event.{Event}
use Rattle.event.specs.Remote.{of_remote}
use Rattle.event.specs.WellMade.{call_made, well_made}
use Rattle.event.specs.Kinds.{cfu, cfnr, with_number, facility, release_complete, on_leg2, of_incoming, of_outgoing}
use Rattle.event.proofs.Groups.{of_no_call}
use Rattle.notice.specs.Notice.{marked, no_history}
use Rattle.waits.specs.Waits.{no_waits, waits_for}
use Rattle.waits.specs.Soundness.{waits_hold}
use Rattle.waits.proofs.Kept.{none_unused}
use Rattle.call.specs.declared.Call.{Call}
use Rattle.call.specs.Record.{outgoing, incoming, Proceeding, Received, Delivered, Divert, Invoked, Requested, proceeding, received, delivered, active, fits}
use Rattle.call.specs.Fields.{cdr_is, waiting_is}
use Rattle.call.specs.Soundness.{divert_holds, sound_outgoing, sound_call}
use Rattle.call.specs.State.{message_basic_forbids, state_forbids, addressed, Taker, NoneTakes, basic_forbids, BasicExact, TakerExact}
use Rattle.call.proofs.Denials.{denied_first, never}
use Rattle.call.proofs.Sound.{Outgoing, Incoming, outgoing_sound, incoming_sound}
use Rattle.call.proofs.Made.{Made, opens_outgoing, opens_incoming, opens_diverted, alerts, answers, diverts_call, results, rejects, leg_fails, clocks, ends_own, invokes, informs, messages, far_ends, made, of_kind}
use Rattle.call.proofs.Kept.{to_incoming, to_outgoing}
use Rattle.call.proofs.KeptIncoming.{from_zero}
use Rattle.call.proofs.State.{as_incoming, as_outgoing, basic_none}

-- an incoming call in a basic state, with a request or a grant, or neither
abbrev incoming_in : (basic cds granted reason identifier : ℕ) → Call
incoming_in basic cds granted reason identifier = record {
  direction = incoming;
  basic = basic;
  cdo = 0;
  cdr = 0;
  cds = cds;
  cdf = 0;
  granted = granted;
  counter = 0;
  start = 0;
  party = 0;
  history = no_history;
  own = 1;
  diverting = 0;
  original = 0;
  identifier = identifier;
  reason = reason;
  waiting = no_waits;
}

abbrev quiet_in : ℕ → Call
quiet_in basic = incoming_in basic 0 0 0 0

abbrev proceeding_asked : Call
proceeding_asked = incoming_in Proceeding Requested 0 cfu 1

abbrev received_asked : Call
received_asked = incoming_in Received Requested 0 cfnr 1

abbrev received_granted : Call
received_granted = incoming_in Received 0 marked cfnr 0

-- an outgoing call whose caller was told of a diversion
abbrev told_in : ℕ → Call
told_in basic = record {
  direction = outgoing;
  basic = basic;
  cdo = Divert;
  cdr = 0;
  cds = 0;
  cdf = 0;
  granted = 0;
  counter = 0;
  start = 0;
  party = 1;
  history = record { seen = marked; strictest = with_number; forbidden = 0; shown = 0; nominated = 1 };
  own = 0;
  diverting = 0;
  original = 0;
  identifier = 0;
  reason = 0;
  waiting = no_waits;
}

-- one with a forwarded leg too
abbrev with_leg2 : Call
with_leg2 = waiting_is (waits_for (record { reason = cfnr; option = with_number; number = 1 })) (cdr_is Invoked (told_in Delivered))

ruleset joins = (and_l, and_r, and_i, from_zero, trivial, none_unused)

quiet_sound : (last : ℕ) {c : Call} → Incoming last c → T (sound_call last (quiet_in c.basic))
quiet_sound last {c} w = let q : Incoming last (quiet_in c.basic) = search joins depth 12 in incoming_sound q

proceeding_asked_sound : (last : ℕ) → T (sound_call last proceeding_asked)
proceeding_asked_sound last = let q : Incoming last proceeding_asked = search joins depth 12 in incoming_sound q

received_asked_sound : (last : ℕ) → T (sound_call last received_asked)
received_asked_sound last = let q : Incoming last received_asked = search joins depth 12 in incoming_sound q

received_granted_sound : (last : ℕ) → T (sound_call last received_granted)
received_granted_sound last = let q : Incoming last received_granted = search joins depth 12 in incoming_sound q

told_sound : (last : ℕ) {c : Call} → Outgoing c → T (not (active c)) → T (sound_call last (told_in c.basic))
told_sound last {c} w n =
    let d : T (divert_holds (told_in c.basic)) = rw (is_false (active c) n) tt in
    let q : Outgoing (told_in c.basic) = search joins depth 12 in
    outgoing_sound last q

with_leg2_sound : (last : ℕ) → T (sound_call last with_leg2)
unfolding sound_call sound_outgoing waits_hold all
with_leg2_sound last = tt

-- the record that a lemma is about takes the event
module _ (last : ℕ) (c : Call) (e : Event) (h : T (sound_call last c)) (a : T (addressed c e)) (n : T (not (basic_forbids c e))) where
  itself : T (not (state_forbids c e)) → Taker last c e
  itself t = record { taker = c; sound = h; direction = refl; basic = refl; takes = t }

  quiet : T (of_incoming e) → T (not (state_forbids (quiet_in c.basic) e)) → Taker last c e
  quiet o t = record {
    taker = quiet_in c.basic;
    sound = quiet_sound last (as_incoming last c e h a o);
    direction = sym (eqb→eq c.direction 2 (to_incoming c e a o));
    basic = refl;
    takes = t;
  }

  -- a request that waits in that state
  asked : T (of_incoming e) → T (not (active c)) → T (not (state_forbids proceeding_asked e)) → T (not (state_forbids received_asked e)) → Taker last c e
  asked o i p r =
      let w = as_incoming last c e h a o in
      let d = sym (eqb→eq c.direction 2 (to_incoming c e a o)) in
      let low : T (leb 1 c.basic) = search (and_l, and_r) depth 8 in
      let high : T (leb c.basic 3) = search (and_l, and_r) depth 8 in
      by_cases (proceeding c)
      (λ y. record { taker = proceeding_asked; sound = proceeding_asked_sound last; direction = d; basic = sym (eqb→eq c.basic 1 (from_true (proceeding c) y)); takes = p })
      (λ y. record { taker = received_asked; sound = received_asked_sound last; direction = d; basic = omega (arith, leb→le 1 c.basic low, leb→le c.basic 3 high, eqb-false c.basic 1 y, eqb-false c.basic 3 (is_false (active c) i)); takes = r })

  told : T (of_outgoing e) → T (not (active c)) → T (not (state_forbids (told_in c.basic) e)) → Taker last c e
  told o i t = record {
    taker = told_in c.basic;
    sound = told_sound last (as_outgoing last c e h a o) i;
    direction = sym (eqb→eq c.direction 1 (to_outgoing c e a o));
    basic = refl;
    takes = t;
  }

  on_leg_2 : T (of_outgoing e) → T (delivered c) → T (not (state_forbids with_leg2 e)) → Taker last c e
  on_leg_2 o d t = record {
    taker = with_leg2;
    sound = with_leg2_sound last;
    direction = sym (eqb→eq c.direction 1 (to_outgoing c e a o));
    basic = sym (eqb→eq c.basic 2 d);
    takes = t;
  }

  -- shown of the event with its kind's number written out, where the table is that kind's test
  abbrev TakenBy : Call → Event → Type 0
  TakenBy d x = T (not (state_forbids d x))

  pub taker_there : Made e → Taker last c e
  unfolding state_forbids basic_forbids
  taker_there (opens_outgoing k f) = itself (of_kind (TakenBy c) e k tt)
  taker_there (opens_incoming k f) = itself (of_kind (TakenBy c) e k tt)
  taker_there (opens_diverted k f) = itself (of_kind (TakenBy c) e k tt)
  taker_there (alerts k f) =
      let m = rw k at n in
      let p : T (not (not (proceeding c))) = search nor_l depth 8 in
      quiet (rw k tt) (of_kind (TakenBy (quiet_in c.basic)) e k (rw (is_true (proceeding c) (not_not (proceeding c) p)) tt))
  taker_there (answers k f) =
      let m = rw k at n in
      let p : T (not (active c)) = search nor_l depth 8 in
      quiet (rw k tt) (of_kind (TakenBy (quiet_in c.basic)) e k (rw (is_false (active c) p) tt))
  taker_there (diverts_call k f) =
      let m = rw k at n in
      let p : T (not (not (fits e.reason c))) = search nor_l depth 8 in
      quiet (rw k tt) (of_kind (TakenBy (quiet_in c.basic)) e k (rw (is_true (fits e.reason c) (not_not (fits e.reason c) p)) tt))
  taker_there (results k f) =
      let m = rw k at n in
      let p : T (not (active c)) = search nor_l depth 8 in
      asked (rw k tt) p (of_kind (TakenBy proceeding_asked) e k tt) (of_kind (TakenBy received_asked) e k tt)
  taker_there (rejects k f) =
      let m = rw k at n in
      let p : T (not (active c)) = search nor_l depth 8 in
      asked (rw k tt) p (of_kind (TakenBy proceeding_asked) e k tt) (of_kind (TakenBy received_asked) e k tt)
  taker_there (leg_fails k f) =
      let m = rw k at n in
      let p : T (not (not (received c))) = search in
      record {
        taker = received_granted;
        sound = received_granted_sound last;
        direction = sym (eqb→eq c.direction 2 (to_incoming c e a (rw k tt)));
        basic = sym (eqb→eq c.basic 2 (not_not (received c) p));
        takes = of_kind (TakenBy received_granted) e k tt;
      }
  taker_there (clocks k f) = itself (of_kind (TakenBy c) e k tt)
  taker_there (ends_own k f) = itself (of_kind (TakenBy c) e k tt)
  taker_there (invokes k f) =
      let m = rw k at n in
      let p : T (not (on_leg2 e && not (delivered c))) = search (nor_l, nor_r) depth 8 in
      by_cases (on_leg2 e)
      (λ l. on_leg_2 (rw k tt) (not_not (delivered c) (rw l at p)) (of_kind (TakenBy with_leg2) e k (rw l tt)))
      (λ l. itself (of_kind (TakenBy c) e k (rw l tt)))
  taker_there (informs k f) = itself (rw k (rw k at n))
  taker_there (messages k f) =
      let m : T (not (message_basic_forbids c e)) = rw k at n in
      by_cases (on_leg2 e) (λ l.
      let m2 : T (not (facility e || not (delivered c))) = rw l at m in
      let y : T (not (facility e)) = search nor_l in
      let d : T (not (not (delivered c))) = search nor_r in
      on_leg_2 (rw k tt) (not_not (delivered c) d) (of_kind (TakenBy with_leg2) e k (rw (l, is_false (facility e) y) tt))) (λ l.
      by_cases (release_complete e)
      (λ r. itself (of_kind (TakenBy c) e k (rw (l, eqb→eq e.message 4 (from_true (release_complete e) r)) (never (active c)))))
      (λ r.
      let i : T (not (active c && true)) = rw (l, r) at m in
      let p = denied_first (active c) true i tt in
      told (rw k tt) p (of_kind (TakenBy (told_in c.basic)) e k (rw (l, is_false (active c) p, and_false (facility e)) tt))))
  taker_there (far_ends k f) = itself (of_kind (TakenBy c) e k tt)

-- kinds 16 to 31 name no call: any record takes them, as far as its state goes
pub far_takes : (c : Call) (e : Event) → T (of_remote e) → T (not (state_forbids c e)) × T (not (basic_forbids c e))
unfolding state_forbids basic_forbids
far_takes c e t =
    let n = of_no_call e (leb→le 16 e.kind (and_l (leb 16 e.kind) (leb e.kind 31) t)) in
    rw (n.incoming, n.outgoing) (tt, tt)

by_role : (e : Event) → T (well_made e) → {P : Type 0} → (T (of_remote e) → P) → (T (call_made e) → P) → P
unfolding well_made
by_role e m f g = by_cases (of_remote e) (λ t. f (from_true (of_remote e) t)) (λ t. g (rw t at m))

some_takes : (last : ℕ) (c : Call) (e : Event) → T (sound_call last c) → T (well_made e) → T (addressed c e) → T (not (basic_forbids c e)) → Taker last c e
some_takes last c e h m a n =
    by_role e m (λ t. record { taker = c; sound = h; direction = refl; basic = refl; takes = (far_takes c e t).0 }) (λ f. taker_there last c e h a n (made e f))

none_takes : (last : ℕ) (c : Call) (e : Event) → T (well_made e) → T (addressed c e) → T (basic_forbids c e) → NoneTakes last c e
none_takes last c e m a b = by_role e m (λ t. absurd (T_not (basic_forbids c e) (far_takes c e t).1 b)) (λ f. basic_none last c e f a b)

pub basic_exact : BasicExact
basic_exact last c e h m a =
    (none_takes last c e m a, λ n. by_cases (basic_forbids c e) (λ y. from_true (basic_forbids c e) y) (λ y. absurd (n (some_takes last c e h m a (from_false (basic_forbids c e) y)))))

pub taker_exact : TakerExact
taker_exact last c e h m a = (some_takes last c e h m a, λ t. not_T (basic_forbids c e) (λ b. none_takes last c e m a b t))
