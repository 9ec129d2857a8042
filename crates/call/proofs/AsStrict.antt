-- Where two runs start: a sound record is as strict as itself. Assumes nothing.
use Prim.Native.Nat.{ℕ, ◌≤◌}
use mathlib.Core.Path.{◌≡◌}
use mathlib.Core.Bool.{Bool, true, false}
use native.Mathlib.Omega.{arith}
use lib.Dec.{T, leb→le, eqb→eq}
use Rattle.ground.specs.Choice.{when◌then◌else◌}
use Rattle.ground.proofs.Bools.{and_l, and_r, when_has}
use Rattle.notice.specs.declared.History.{History}
use Rattle.notice.specs.Notice.{seen}
use Rattle.notice.specs.Stricter.{highest}
use Rattle.notice.proofs.Stricter.{history_stricter}
use Rattle.waits.specs.declared.Waits.{Waits}
use Rattle.waits.specs.Soundness.{waits_hold, waits_unused}
use Rattle.waits.specs.Laws.{StricterWaits}
use Rattle.waits.proofs.Kept.{unused_none, none_stricter, hold_stricter}
use Rattle.call.specs.declared.Call.{Call}
use Rattle.call.specs.Record.{is_free, is_outgoing, is_incoming, delivered, invoked}
use Rattle.call.specs.Soundness.{history_unused, outgoing_unused, waiting_holds, history_holds, sound_outgoing, sound_incoming, sound_call}
use Rattle.call.specs.Stricter.{StricterCall, stricter}

-- What waits is as strict as itself.
unused_stricter : (w : Waits) → T (waits_unused w) → StricterWaits w w
unused_stricter w t = rw (unused_none w t) none_stricter

waiting_stricter : (c : Call) → T (waiting_holds c) → StricterWaits c.waiting c.waiting
waiting_stricter c t =
    when_has (λ x. T x → StricterWaits c.waiting c.waiting) (invoked c)
    (λ i u. hold_stricter c.waiting (and_r (delivered c) (waits_hold c.waiting) u)) (λ i u. unused_stricter c.waiting u) t

-- The bound that the relation wants of the history.

unused_top : (b : Bool) (s : ℕ) → s ≡ 0 → s ≤ (when b then 2 else 0)
unused_top true s e = omega arith
unused_top false s e = omega arith

history_top : (h : History) → T (history_unused h) → h.strictest ≤ highest h
history_top h t = unused_top (seen h) h.strictest (search (and_l, and_r, eqb→eq))

seen_top : (b : Bool) (s : ℕ) → T b → s ≤ 2 → s ≤ (when b then 2 else 0)
seen_top true s t l = l
seen_top false s t l = absurd t

held_top : (h : History) → T (history_holds h) → h.strictest ≤ highest h
held_top h t =
    when_has (λ x. T x → h.strictest ≤ highest h) (seen h) (λ b u. seen_top (seen h) h.strictest b (search (and_l, leb→le))) (λ b u. history_top h u) t

-- a sound record is as strict as itself
pub call_stricter : (last : ℕ) (c : Call) → T (sound_call last c) → StricterCall c c
unfolding sound_call sound_outgoing sound_incoming
call_stricter last c t =
    when_has (λ x. T x → StricterCall c c) (is_free c) (λ b u. unused (search (and_l, and_r)))
    (λ b. when_has (λ x. T x → StricterCall c c) (is_outgoing c)
    (λ b u. made (waiting_stricter c (search (and_l, and_r))) (held_top c.history (search (and_l, and_r))))
    (λ b. when_has (λ x. T x → StricterCall c c) (is_incoming c) (λ b u. unused (search (and_l, and_r) depth 10)) (λ b u. absurd u))) t
  where
    made : StricterWaits c.waiting c.waiting → c.history.strictest ≤ highest c.history → StricterCall c c
    made waits top = stricter c c.waiting c.history waits (history_stricter c.history top)

    unused : T (outgoing_unused c) → StricterCall c c
    unused u = made (unused_stricter c.waiting (search (and_l, and_r))) (history_top c.history (search (and_l, and_r)))
