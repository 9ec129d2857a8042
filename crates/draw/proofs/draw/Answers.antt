use Prim.Native.Nat.{◌-◌, ◌+◌}
use mathlib.Core.Path.{◌≡◌, refl, sym, ◌∙◌}
use native.Mathlib.Omega.{arith}
use lib.Dec.{eqb}
use lib.ListN.{length}
use lib.Seq.{take_all}
use Rattle.ground.specs.Lists.{any}
use Rattle.ground.proofs.Walks.{any_next}
use Rattle.draw.proofs.Held.{free_step, free_found, free_none}
use Rattle.draw.proofs.draw.Goals as goal

pub loop-id-init : goal.loop-id-init
unfolding any
loop-id-init c = refl

pub loop-id-preserved : goal.loop-id-preserved
loop-id-preserved c =
    let k = c.candidate in
    let l = c.args.held.now in
    let long : length l ≡ 68 = omega arith in
    rw c.loop-id.invariant (sym (any_next (eqb (k.candidate + 1)) l c.loop-id.id-index 0 (omega arith)))

pub candidate-preserved : goal.candidate-preserved
candidate-preserved c =
    let k = c.candidate in
    let l = c.args.held.now in
    let long : length l ≡ 68 = omega arith in
    let e : c.loop-id.id-index ≡ 68 = omega arith in
    let hit = sym (rw (e, take_all 68 l (omega arith)) at c.loop-id.invariant) ∙ c.if-not-taken.false in (
      omega (arith, c.next_after-candidate.ensures),
      rw c.next_after-candidate.ensures (sym (free_step (69 - k.counter) (69 - (k.counter + 1)) l k.candidate (omega arith) hit) ∙ k.invariant.1),
    )

pub returns-after-candidate : goal.returns-after-candidate
returns-after-candidate c =
    let k = c.candidate in
    let e : 69 - k.counter ≡ 0 = omega arith in
    sym (free_none c.args.held.now k.candidate) ∙ (rw e at k.invariant.1)

pub returns-then-not-taken : goal.returns-then-not-taken
returns-then-not-taken c =
    let k = c.candidate in
    let l = c.args.held.now in
    let long : length l ≡ 68 = omega arith in
    let e : c.loop-id.id-index ≡ 68 = omega arith in
    let none = sym (rw (e, take_all 68 l (omega arith)) at c.loop-id.invariant) ∙ c.if-not-taken.true in
    sym (free_found (69 - k.counter) (68 - k.counter) l k.candidate (omega arith) none) ∙ k.invariant.1
