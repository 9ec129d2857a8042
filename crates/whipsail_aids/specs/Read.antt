-- An event record read from bytes that the host holds.
use Rattle.std.specs.Prelude.{ℕ, ◌+◌, List, ltb, length}
use Rattle.ground.specs.Choice.{when◌then◌else◌}
use Rattle.event.specs.declared.Event.{Event}
use Rattle.wire.specs.Record.{event_at}
use Rattle.whipsail_aids.specs.declared.Read.{Read}

abbrev pub no_event : Event
no_event = record {
  kind = 0;
  call = 0;
  leg = 0;
  message = 0;
  reason = 0;
  option = 0;
  counter = 0;
  flag = 0;
  identifier = 0;
  first = 0;
  second = 0;
  third = 0;
  time = 0;
}

abbrev pub not_read : Read
not_read = record { whole = 0; event = no_event }

-- fewer than 24 bytes from the place on are a cut record: none is read
abbrev pub read_at : List ℕ → ℕ → Read
read_at bytes i = when ltb (length bytes) (i + 24) then not_read else record { whole = 1; event = event_at bytes i }
