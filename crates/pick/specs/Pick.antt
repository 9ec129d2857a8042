-- What is asked of a lent table's records, and what is picked of their identifiers.
use Rattle.std.specs.Prelude.{ℕ, ◌-◌, Bool, true, ◌&&◌, ◌||◌, List}
use Rattle.ground.specs.Choice.{when◌then◌else◌}
use Rattle.event.specs.Kinds.{diverts}
use Rattle.event.specs.Remote.{asks}
use Rattle.timed.specs.Timed.{t1}
use Rattle.call.specs.declared.Call.{Call}
use Rattle.remote.specs.declared.Pendings.{Pendings}
use Rattle.draw.specs.Column.{joined_of, identifier_in, column_of}
use Rattle.table.specs.Column.{apart_in}
use Rattle.survey.specs.declared.Asked.{Asked}
use Rattle.survey.specs.declared.Noted.{Noted}
use Rattle.sight.specs.Sight.{place_of}
use Rattle.pick.specs.declared.Input.{Input}
use Rattle.pick.specs.declared.Pick.{Pick}

-- the station's own requests
abbrev pub pending_in : Input → Pendings
pending_in input = input.station.remote.pending

-- what the survey is asked
abbrev pub asked_of : Input → Asked
asked_of input = record { last = input.station.last; by = input.event.time - (t1 - 1); next = input.station.next; pending = pending_in input }

abbrev pub place_seen : Noted → Input → ℕ
place_seen v input = place_of input.event v.free v.due

-- the column of identifiers is needed where two marks are the same, and for a request where the next identifier has one
abbrev pub wants_column : Noted → Input → Bool
wants_column v input = v.clash || (v.marked && (diverts input.event || asks input.event))

-- identifiers are compared only where two marks are the same
abbrev pub apart_where : Bool → List ℕ → Bool
apart_where clash held = when clash then apart_in held else true

-- what the column of identifiers tells, and what is known without it
abbrev pub from_column : Input → Noted → List ℕ → Pick
from_column input v held = record {
  apart = apart_where v.clash (joined_of held (pending_in input));
  identifier = identifier_in input.event held (pending_in input) input.station.next;
}

abbrev pub as_it_stands : Input → Pick
as_it_stands input = record { apart = true; identifier = input.station.next }

-- of the first n records
abbrev pub picked_of : Input → Noted → ℕ → List Call → Pick
picked_of input v n calls = when wants_column v input then from_column input v (column_of n calls) else as_it_stands input
