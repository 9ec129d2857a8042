use Rattle.std.proofs.Common.{◌≡◌, true, take}
use Rattle.ground.specs.Lists.{all}
use Rattle.rehearsal.specs.Plan.{panels_of, panel_ok}
use Rattle.offers.proofs.panels_ok.Given as goal

abbrev pub invariant-loop-i : goal.invariant-loop-i
invariant-loop-i l = all (panel_ok l.panels) (take l.i (panels_of l.plan)) ≡ true
