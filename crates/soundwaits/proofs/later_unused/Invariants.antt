use Prim.Native.Nat.{◌*◌}
use mathlib.Core.Bool.{◌&&◌}
use mathlib.Core.Path.{◌≡◌}
use lib.Dec.{eqb}
use lib.ListN.{take}
use Rattle.ground.specs.Lists.{all}
use Rattle.waits.specs.Soundness.{dli1_unused}
use Rattle.soundwaits.proofs.later_unused.Given as goal

abbrev pub invariant-loop-i : goal.invariant-loop-i
invariant-loop-i l = l.ok ≡ eqb l.w.count 0 && all dli1_unused (take (2 * l.i) l.w.later)
