-- What is noted of a table: free records, due times, open identifiers.
use Rattle.std.specs.Prelude.{List, map}
use Rattle.call.specs.declared.Call.{Call}
use Rattle.call.specs.Record.{is_free}
use Rattle.bits.specs.Mask.{mask_of}
use Rattle.expiry.specs.Expiry.{quiet_until, soonest_of}
use Rattle.draw.specs.Column.{held_by}
use Rattle.notes.specs.declared.Notes.{Notes}

-- what records come to, summed up
unfoldable pub notes_of : List Call → Notes
notes_of calls = record {
  free = mask_of is_free calls;
  soon = soonest_of (map quiet_until calls);
  dues = map quiet_until calls;
  held = map held_by calls;
}
