use Prim.Native.Nat.{◌+◌, ◌*◌, ◌<◌}
use mathlib.Core.Path.{◌≡◌, sym, ◌∙◌}
use native.Mathlib.Omega.{arith}
use lib.Dec.{eqb}
use lib.ListN.{length}
use Rattle.ground.specs.Lists.{all}
use Rattle.ground.proofs.Walks.{mapped_long}
use Rattle.waits.specs.Soundness.{dli1_unused}
use Rattle.ground.proofs.Bools.{and_true, and_assoc}
use Rattle.soundwaits.proofs.Places.{pair_unused, all_more}
use Rattle.soundwaits.proofs.later_unused.Goals as goal

pub loop-i-init : goal.loop-i-init
unfolding all
loop-i-init c = sym (and_true _)

-- two places more
pub loop-i-preserved : goal.loop-i-preserved
loop-i-preserved c =
    let w = c.args.w in
    let i = c.loop-i.i in
    let long : length w.later ≡ 14 = search mapped_long in
    let near : 2 * i < length w.later = omega arith in
    let next : 2 * i + 1 < length w.later = omega arith in
    let e : 2 * (i + 1) ≡ 2 * i + 1 + 1 = omega arith in
    let one = all_more dli1_unused w.later (2 * i) _ c.loop-i.ok (eqb w.count 0) near c.loop-i.invariant in
    let two = all_more dli1_unused w.later (2 * i + 1) _ _ (eqb w.count 0) next one in
    rw (c.pair_word-word.ensures, e, pair_unused _ _) (and_assoc c.loop-i.ok _ _ ∙ two)
