-- A slice that a host lends, by its list: what of it is read, and what is written back.
use Rattle.std.specs.Prelude.{ℕ, Option, Some, None, List, set, leb}
use Rattle.ground.specs.Choice.{when◌then◌else◌}
use Rattle.call.specs.declared.Call.{Call}

-- how many records are worked on at most
abbrev pub cap : ℕ
cap = 64

-- how many records of a table of len are worked on
unfoldable pub fit_of : ℕ → ℕ
fit_of len = when leb len cap then len else 0

-- the list with the record that changes at its place; as it was where none does
unfoldable pub settled_at : Option (ℕ × Call) → List Call → List Call
settled_at None l = l
settled_at (Some (place, c)) l = set l place c
