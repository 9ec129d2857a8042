-- The first request that is due, where one is.
use Rattle.std.specs.Prelude.{ℕ, Option, Some, None, eqb}
use Rattle.ground.specs.Choice.{when◌then◌else◌}
use Rattle.remote.specs.declared.Pendings.{Pendings}
use Rattle.remote.specs.Held.{no_sort, first_due}

-- its sort; none where the number of it is that of no sort
abbrev pub due_sort : ℕ → Pendings → Option ℕ
due_sort time p = when eqb (first_due time p) no_sort then None else Some (first_due time p)
