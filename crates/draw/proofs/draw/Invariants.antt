use Prim.Native.Nat.{◌<◌, ◌-◌, ◌+◌}
use mathlib.Core.Path.{◌≡◌}
use lib.Dec.{eqb}
use lib.ListN.{take}
use Rattle.ground.specs.Lists.{any}
use Rattle.draw.specs.Column.{first_free_in}
use Rattle.draw.proofs.draw.Given as goal

abbrev pub invariant-loop-id : goal.invariant-loop-id
invariant-loop-id l = l.taken ≡ any (eqb (l.candidate + 1)) (take l.id-index l.held)

abbrev pub invariant-candidate : goal.invariant-candidate
invariant-candidate l = (l.candidate < 65536) × (first_free_in (69 - l.counter) l.held l.candidate ≡ first_free_in 69 l.held l.next)
