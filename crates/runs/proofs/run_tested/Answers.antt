use Prim.Native.Nat.{◌/◌}
use mathlib.Core.Path.{◌≡◌, refl, sym, ap, ◌∙◌}
use native.Mathlib.Omega.{arith}
use lib.ListN.{length}
use Rattle.std.specs.Prelude.{is_ok}
use Rattle.board.proofs.OneEvent.{step_sound_board}
use Rattle.runs.proofs.Folds.{first_none}
use Rattle.runs.proofs.Bridge.{runs_tested}
use Rattle.runs.proofs.Playing.{playing_done, playing_refused}
use Rattle.runs.proofs.run_tested.Goals as goal
use Rattle.runs.proofs.run_tested.Goals.{in-Ok, in-Err}

pub loop-k-init : goal.loop-k-init
loop-k-init c = record { count = refl; so_far = sym (first_none step_sound_board c.on-driver.result c.args.events.now) }

pub loop-k-preserved : goal.loop-k-preserved
loop-k-preserved c =
    let v = c.loop-k in
    let e = c.event_at-e in
    elim c.match-play.branch [
      | in-Ok w ↦ rw (w.done-is, w.refused-is) (playing_done c.on-driver.result c.args.events.now v.driver v.done v.refused v.k v.invariant e.result e.ensures _ _ c.play.ensures (ap is_ok w.in-Ok.is))
      | in-Err w ↦ rw (w.done-is, w.refused-is) (playing_refused c.on-driver.result c.args.events.now v.driver v.done v.refused v.k v.invariant e.result e.ensures _ _ c.play.ensures (ap is_ok w.in-Err.is))
    ]

pub returns : goal.returns
returns c =
    let e : c.loop-k.k ≡ length c.args.events.now / 24 = omega arith in
    rw c.board.ensures (rw (e, c.on-driver.ensures) at c.loop-k.invariant.so_far ∙ runs_tested c.args.b c.args.events.now c.requires)
