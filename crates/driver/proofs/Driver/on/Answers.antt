use Rattle.driver.proofs.Beside.{kept_start}
use Rattle.driver.proofs.Driver.on.Goals as goal

pub invariant_of-result : goal.invariant_of-result
invariant_of-result c = kept_start c.args.b c.summed.result c.requires c.summed.ensures
