-- `offer` and `forward` call each other, and the remaining limit falls: 2n + 1 for `offer` with n left, 2n for `forward`.
use Rattle.std.proofs.Common.{◌+◌}
use Rattle.offers.proofs.+forward_offer.Given as goal

abbrev pub decreases-forward : goal.decreases-forward
decreases-forward l = l.left + l.left

abbrev pub decreases-offer : goal.decreases-offer
decreases-offer l = l.left + l.left + 1
