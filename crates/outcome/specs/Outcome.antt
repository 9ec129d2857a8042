-- The station after a done event.
use Rattle.std.specs.Prelude.{ℕ, ◌||◌}
use Rattle.ground.specs.Choice.{when◌then◌else◌}
use Rattle.event.specs.declared.Event.{Event}
use Rattle.event.specs.Kinds.{diverts}
use Rattle.event.specs.Remote.{asks}
use Rattle.identifier.specs.Identifier.{after}
use Rattle.remote.specs.declared.Remote.{Remote}
use Rattle.station.specs.declared.Station.{Station}

-- "the one after it is next"; "A done event makes its time the last time."
abbrev pub station_far : Station → Event → ℕ → Remote → Station
station_far s e identifier r = record {
  last = e.time;
  next = when diverts e || asks e then after identifier else s.next;
  limit = s.limit;
  remote = r;
}

-- where it acts on a record, what the station holds stays
abbrev pub station_on : Station → Event → ℕ → Station
station_on s e identifier = station_far s e identifier s.remote
