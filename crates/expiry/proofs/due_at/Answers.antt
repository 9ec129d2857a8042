use mathlib.Core.Path.{◌≡◌, sym, ◌∙◌}
use native.Mathlib.Omega.{arith}
use lib.ListN.{length}
use Rattle.expiry.specs.Expiry.{under}
use Rattle.expiry.proofs.Bound.{none_under}
use Rattle.expiry.proofs.Past.{first_found}
use Rattle.expiry.proofs.due_at.Goals as goal

pub returns-then-time-soon : goal.returns-then-time-soon
returns-then-time-soon c =
    let long : length c.args.dues.now ≡ 64 = omega arith in
    sym (none_under c.args.time c.args.soon c.args.dues.now c.if-time-soon.true c.requires ∙ long)

pub returns-else-time-soon : goal.returns-else-time-soon
returns-else-time-soon c =
    let long : length c.args.dues.now ≡ 64 = omega arith in
    rw (c.unwrap_or.ensures, c.first_past.ensures) (first_found (under c.args.time) c.args.dues.now 64 long)
