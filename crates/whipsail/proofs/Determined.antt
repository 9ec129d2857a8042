-- The contract of `whipsail_lent_step` determines its outcome: the answer, the station and the table after it. Assumes nothing.
use mathlib.Core.Path.{◌≡◌}
use mathlib.Core.List.{List}
use Rattle.ground.proofs.Determined.{determined}
use Rattle.call.specs.declared.Call.{Call}
use Rattle.pick.specs.declared.Input.{Input}
use Rattle.change.specs.declared.Reply.{Reply}
use Rattle.whipsail.specs.Lent.{reply_of, table_after}

module _ (table : List Call) (input : Input) where
  -- what the contract allows, for one table and input
  abbrev Allowed : Reply → List Call → Type 0
  Allowed reply after = (reply ≡ reply_of table input) × (after ≡ table_after table input)

  pub lent_determined : (one other : Reply) (after after' : List Call) → Allowed one after → Allowed other after' → (one ≡ other) × (after ≡ after')
  lent_determined one other after after' p q = (determined (reply_of table input) one other p.0 q.0, determined (table_after table input) after after' p.1 q.1)
