use mathlib.Core.Path.{◌≡◌}
use native.Mathlib.Omega.{arith}
use lib.ListN.{length}
use Rattle.draw.proofs.Four.{four_stored}
use Rattle.draw.proofs.joined.Goals as goal

pub returns : goal.returns
returns c =
    let l = c.args.held.now in
    let long : length l ≡ 64 = omega arith in
    rw (c.held_of-4.ensures, c.held_of-3.ensures, c.held_of-2.ensures, c.held_of.ensures, c.copy_from_slice.ensures.after)
    (four_stored l _ _ _ _ long)
