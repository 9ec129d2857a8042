-- An open request ends only by its result, its error or reject, its expiry, an answer of the call or the end of the call. Assumes nothing.
use Prim.Native.Nat.{ℕ, ◌≤◌}
use native.Mathlib.Omega.{arith}
use mathlib.Core.Path.{◌≡◌}
use mathlib.Core.Bool.{Bool, false, not, ◌&&◌, ◌||◌}
use borrow.Author.Tests.{lt-leb, ne_eqb}
use lib.Dec.{T, leb, eqb, eqb→eq, leb→le, T_not, not_T}
use Rattle.ground.proofs.Bools.{and_l, and_r, and_i, nor_l, nor_r, not_not}
use Rattle.event.specs.declared.Event.{Event}
use Rattle.event.specs.Kinds.{opens, diverts, answers_request, clock, ends}
use Rattle.event.specs.WellMade.{call_made}
use Rattle.call.specs.declared.Call.{Call}
use Rattle.call.specs.Record.{is_free, is_outgoing, requested, granted, fits}
use Rattle.ground.specs.Choice.{only}
use Rattle.call.specs.Soundness.{sound_call}
use Rattle.call.specs.State.{granted_cfnr, addressed, state_forbids}
use Rattle.call.specs.Act.{act}
use Rattle.call.proofs.Sound.{Incoming, requested_incoming}
use Rattle.call.proofs.Made.{Made, opens_outgoing, opens_incoming, opens_diverted, alerts, answers, diverts_call, results, rejects, leg_fails, clocks, ends_own, invokes, informs, messages, far_ends, made}
use Rattle.call.proofs.Kept.{to_outgoing, alerts_unheld, act_request}

-- "6: .. CDS Idle": a divert that is taken finds no open request
pub divert_idle : (c : Call) (e : Event) → T (diverts e) → T (not (state_forbids c e)) → T (not (requested c))
unfolding state_forbids
divert_idle c e d n =
    let m = rw (eqb→eq e.kind 6 d) at n in
    let x : T (not (not (fits e.reason c) || (requested c || granted c))) = search nor_l depth 8 in
    search (nor_l, nor_r) depth 8

-- its result, its error or reject, its expiry, an answer of the call or the end of the call
abbrev pub ends_request : Event → Bool
ends_request e = answers_request e || clock e || eqb e.kind 5 || ends e || eqb e.kind 15

module _ (last : ℕ) (c : Call) (e : Event) (h : T (sound_call last c)) (r : T (requested c)) (o : T (only (opens e) (is_free c)))
    (a : T (addressed c e)) (n : T (not (state_forbids c e))) where
  its : Incoming last c
  its = requested_incoming last c h r

  not_free : T (is_free c) → ⊥
  not_free t = rw (eqb→eq c.direction 2 its.direction) at t

  not_outgoing : T (is_outgoing c) → ⊥
  not_outgoing t = rw (eqb→eq c.direction 2 its.direction) at t

  ending : Made e → T (ends_request e)
  unfolding state_forbids
  ending (opens_outgoing k f) = absurd (not_free (rw k at o))
  ending (opens_incoming k f) = absurd (not_free (rw k at o))
  ending (opens_diverted k f) = absurd (not_free (rw k at o))
  ending (alerts k f) = absurd (T_not (requested c) (nor_l (requested c) (granted c) (alerts_unheld c e k n its)) r)
  ending (answers k f) = rw k tt
  ending (diverts_call k f) = absurd (T_not (requested c) (divert_idle c e (rw k tt) n) r)
  ending (results k f) = rw k tt
  ending (rejects k f) = rw k tt
  ending (leg_fails k f) =
      let p : T (granted_cfnr c) = not_not (granted_cfnr c) (rw k at n) in
      let g : T (requested c && granted c) = search (and_l, and_i) in
      let w = its.apart in
      absurd (T_not (requested c && granted c) (search and_l) g)
  ending (clocks k f) = rw k tt
  ending (ends_own k f) = rw k tt
  ending (invokes k f) = absurd (not_outgoing (to_outgoing c e a (rw k tt)))
  ending (informs k f) = absurd (not_outgoing (to_outgoing c e a (rw k tt)))
  ending (messages k f) = absurd (not_outgoing (to_outgoing c e a (rw k tt)))
  ending (far_ends k f) = rw k tt

-- of the events, only these act on a record that is Requested; an open acts on a free one
pub request_ends : (last : ℕ) (c : Call) (e : Event) → T (sound_call last c) → T (requested c) → T (call_made e) → T (only (opens e) (is_free c)) → T (addressed c e)
    → T (not (state_forbids c e)) → T (ends_request e)
request_ends last c e h r f o a n = ending last c e h r o a n (made e f)

-- and each of them ends the request
pub request_ended : (last identifier : ℕ) (c : Call) (e : Event) → T (sound_call last c) → last ≤ e.time → T (requested c) → T (call_made e) → T (addressed c e)
    → T (not (state_forbids c e)) → T (not (requested (act c e identifier).call))
request_ended last identifier c e h l r f a n = not_T (requested (act c e identifier).call)
    (λ q. T_not (requested c) (divert_idle c e (act_request last identifier c e h l f a n q).0 n) r)

-- an open names no call: nothing of a record stands against it
pub open_unnamed : (c : Call) (e : Event) → T (opens e) → T (addressed c e) × T (not (state_forbids c e))
unfolding state_forbids
open_unnamed c e t =
    let l : e.kind ≤ 3 = search (and_l, and_r, leb→le) in
    let i : leb 4 e.kind ≡ false = lt-leb 4 e.kind (omega arith) in
    let o : leb 12 e.kind ≡ false = lt-leb 12 e.kind (omega arith) in
    let x : eqb e.kind 15 ≡ false = ne_eqb e.kind 15 (λ q. omega arith) in
    let y : eqb e.kind 11 ≡ false = ne_eqb e.kind 11 (λ q. omega arith) in
    (simp (i, o, x, y) tt, simp (i, o, x) tt)

-- nor does a clock event
pub clock_unnamed : (c : Call) (e : Event) → T (clock e) → T (addressed c e) × T (not (state_forbids c e))
unfolding state_forbids
clock_unnamed c e t = let k = eqb→eq e.kind 10 t in (rw k tt, rw k tt)
