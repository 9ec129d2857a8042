use mathlib.Core.Path.{◌≡◌, sym, ◌∙◌}
use native.Mathlib.Omega.{arith}
use lib.Dec.{leb}
use lib.ListN.{length}
use lib.Seq.{take_all}
use Rattle.ground.proofs.Walks.{mapped_long}
use Rattle.ground.proofs.Bools.{and_true}
use Rattle.soundwaits.proofs.Places.{places_hold, places_more, held_read}
use Rattle.soundwaits.proofs.later_hold.Goals as goal

pub loop-i-init : goal.loop-i-init
unfolding places_hold
loop-i-init c = sym (and_true _)

pub loop-i-preserved : goal.loop-i-preserved
loop-i-preserved c =
    let w = c.args.w in
    let long : length w.later ≡ 14 = search mapped_long in
    rw c.place_holds-ok.ensures (places_more w.count w.later c.loop-i.i _ c.loop-i.ok (leb w.count 14) (omega arith) c.loop-i.invariant)

pub returns : goal.returns
returns c =
    let w = c.args.w in
    let long : length w.later ≡ 14 = search mapped_long in
    let e : c.loop-i.i ≡ 14 = omega arith in
    (rw (e, take_all 14 w.later (omega arith)) at c.loop-i.invariant) ∙ held_read w long
