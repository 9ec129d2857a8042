-- What the rules for incoming calls make of a sound record is sound. Assumes nothing.
use Prim.Native.Nat.{ℕ, ◌≤◌}
use native.Mathlib.Omega.{arith}
use mathlib.Core.Path.{◌≡◌}
use mathlib.Core.Bool.{Bool, true, false, not, ◌&&◌, ◌||◌}
use lib.Dec.{T, leb, eqb, eqb→eq, leb→le, le→leb, not_T}
use Rattle.ground.proofs.Bools.{and_l, and_r, and_i, or_inl, or_inr, nor_r, when_has, trivial}
use Rattle.ground.proofs.Walks.{and_false}
use Rattle.event.specs.declared.Event.{Event}
use Rattle.event.specs.Kinds.{cfu, cfb, cfnr}
use Rattle.event.specs.WellMade.{open_fields, open_diverted_fields}
use Rattle.waits.proofs.Kept.{none_unused}
use Rattle.call.specs.declared.Call.{Call}
use Rattle.call.specs.declared.Effect.{Effect}
use Rattle.call.specs.Record.{proceeding, active, requested, granted, wait, undiverted, fits}
use Rattle.call.specs.Fields.{basic_is, cdf_is}
use Rattle.ground.specs.Choice.{only}
use Rattle.call.specs.State.{leaving}
use Rattle.call.specs.Incoming.{opened_incoming, alerted, idle, answered, diverted, grant}
use Rattle.call.proofs.Denials.{denied_l, never}
use Rattle.call.proofs.Sound.{Incoming}

pub from_zero : (n : ℕ) → T (leb 0 n)
from_zero n = le→leb 0 n (omega arith)

to_itself : (n : ℕ) → T (leb n n)
to_itself n = le→leb n n (omega arith)

ruleset joins = (and_l, and_r, and_i, or_inl, nor_r, from_zero, to_itself, trivial, none_unused)

-- a reason that fits is that of a call which is not Active
fits_apart : (reason : ℕ) (c : Call) → T (fits reason c) → T (not (active c))
fits_apart reason c f = not_T (active c) (λ t. absurd (simp (eqb→eq c.basic 3 t, and_false) at f))

-- "8: Idle, not granted"
pub idle_kept : {last : ℕ} {c : Call} → Incoming last c → Incoming last (idle c)
idle_kept w = search joins depth 12

-- another basic state, with neither a request nor a grant
basic_kept : {last : ℕ} {c : Call} (b : ℕ) → Incoming last c → T (not (requested c || granted c)) → T (leb 1 b) → T (leb b 3) → T (not (wait c && eqb b 3))
    → Incoming last (basic_is b c)
basic_kept b w q lo hi f = search joins depth 12

-- "in Wait .. CDF is done"
done_kept : {last : ℕ} {c : Call} → Incoming last c → T (wait c) → Incoming last (cdf_is 2 c)
done_kept {last} {c} w f = let u : T (not (undiverted c)) = rw (eqb→eq c.cdf 1 f) at w.cdf in search joins depth 12

stays : (held early late : Bool) → T (only held ((early && true) || (late && false))) → T (not (held && early)) → T (not held)
stays true true late f n = n
stays true false true f n = f
stays true false false f n = f
stays false early late f n = tt

-- in Proceeding a request or a grant has reason cfu or cfb
pub unheld : {last : ℕ} {c : Call} → Incoming last c → T (proceeding c) → T (not (leaving c)) → T (not (requested c || granted c))
unheld {last} {c} w p n =
    let f : T (only (requested c || granted c) (fits c.reason c)) = search joins in
    stays (requested c || granted c) (eqb c.reason cfu || eqb c.reason cfb) (eqb c.reason cfnr) (rw (eqb→eq c.basic 1 p) at f) n

-- "4: Proceeding becomes Received"
pub alerted_kept : {last : ℕ} {c : Call} → Incoming last c → T (not (requested c || granted c)) → Incoming last (alerted c).call
alerted_kept {last} {c} w q = basic_kept 2 w q tt tt (never (wait c))

-- a sound record with no open request
pub record Unasked (last : ℕ) (c : Call) : Type 0 where
  pub sound : Incoming last c
  pub unasked : T (not (requested c))

-- of the record that an effect leaves
abbrev Leaves : ℕ → Effect → Type 0
Leaves last x = Unasked last x.call

-- "5: Proceeding or Received becomes Active .. in Wait .. CDF is done. .. Kind 5 ends an open cfnr request or grant (ours)."
pub answered_kept : {last : ℕ} {c : Call} (e : Event) → Incoming last c → Leaves last (answered c e)
answered_kept {last} {c} e w =
    when_has (Leaves last) (wait c)
    (λ f. record { sound = basic_kept 3 (done_kept (idle_kept w) f) tt tt tt tt; unasked = tt })
    (λ n. record { sound = basic_kept 3 (idle_kept w) tt tt tt (denied_l (wait c) true n); unasked = tt })

-- "6: .. Enters Requested, starts T1."
pub diverted_kept : {c : Call} (e : Event) (identifier : ℕ) → T (not (eqb identifier 0)) → Incoming e.time c → T (fits e.reason c) → T (leb e.reason 3)
    → T (not (requested c || granted c)) → Incoming e.time (diverted c e identifier).call
diverted_kept {c} e identifier z w f l q = let a = fits_apart e.reason c f in search joins depth 12

-- "7: Idle, granted."
pub grant_kept : {last : ℕ} {c : Call} → Incoming last c → T (requested c) → Incoming last (grant c)
grant_kept {last} {c} w r =
    let a : T (not (granted c) && not (active c) && fits c.reason c) = rw (eqb→eq c.cds 1 r) at w.apart in
    search joins depth 12

-- "An open starts in Proceeding, services Idle"
pub opened_kept : (e : Event) → e.kind ≡ 2 → T (open_fields e) → Incoming e.time (opened_incoming e)
opened_kept e k f =
    let z : e.counter ≡ 0 = search (joins, eqb→eq) depth 12 in
    let l : T (leb e.counter 15) = rw z tt in
    rw k (search (joins, or_inr) depth 14)

-- "kind 3 in CDF Wait"
pub opened_diverted_kept : (e : Event) → e.kind ≡ 3 → T (open_diverted_fields e) → Incoming e.time (opened_incoming e)
opened_diverted_kept e k f =
    let l : 1 ≤ e.counter = search (joins, leb→le) depth 12 in
    let z : T (not (eqb e.counter 0)) = not_T (eqb e.counter 0) (λ t. absurd (omega (arith, eqb→eq))) in
    rw k (search joins depth 14)
