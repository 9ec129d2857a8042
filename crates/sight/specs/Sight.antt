-- Where an event acts, and whether the table has that place.
use Rattle.std.specs.Prelude.{ℕ, Bool, leb}
use Rattle.ground.specs.Choice.{when◌then◌else◌}
use Rattle.event.specs.declared.Event.{Event}
use Rattle.event.specs.Kinds.{opens, clock}
use Rattle.sight.specs.declared.Seen.{Seen}

-- where an event acts, from the lowest free place and the lowest due one
abbrev pub place_of : Event → ℕ → ℕ → ℕ
place_of e free due = when opens e then free else when clock e then due else e.call

-- the place is past the table's end: it has no such call, no free record, none that is due
abbrev pub beyond : Seen → Bool
beyond v = leb v.len v.place
