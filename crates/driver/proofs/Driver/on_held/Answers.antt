use Rattle.driver.proofs.Beside.{kept_far}
use Rattle.driver.proofs.Driver.on_held.Goals as goal

pub invariant_of-self : goal.invariant_of-self
invariant_of-self c = kept_far c.self.inside.board c.self.inside.notes c.self.invariant _ c.args.e.time _ c.refresh-self-inside.ensures
