use mathlib.Core.Bool.{◌&&◌}
use mathlib.Core.Path.{◌≡◌}
use lib.Dec.{leb}
use lib.ListN.{take}
use Rattle.soundwaits.proofs.Places.{places_hold}
use Rattle.soundwaits.proofs.later_hold.Given as goal

abbrev pub invariant-loop-i : goal.invariant-loop-i
invariant-loop-i l = l.ok ≡ leb l.n 14 && places_hold l.n 0 (take l.i l.fn.w.later)
