-- The table of calls that the host lends, a list of records of any length, and when it is sound.
use Rattle.std.specs.Prelude.{ℕ, Bool, ◌&&◌, List, [], ◌∷◌, ◌++◌, leb, length, get_or}
use Rattle.ground.specs.Choice.{when◌then◌else◌}
use Rattle.ground.specs.Lists.{first, all}
use Rattle.event.specs.declared.Event.{Event}
use Rattle.event.specs.Kinds.{opens, clock}
use Rattle.identifier.specs.Identifier.{distinct, drawn}
use Rattle.call.specs.declared.Call.{Call}
use Rattle.call.specs.Record.{free_call, is_free, requested}
use Rattle.call.specs.Soundness.{sound_call}
use Rattle.call.specs.Incoming.{due}
use Rattle.timed.specs.Timed.{identifiers_of}
use Rattle.remote.specs.Held.{timers_of}
use Rattle.station.specs.declared.Station.{Station}
use Rattle.station.specs.Station.{station_ok}

-- the record at a place
abbrev pub at : List Call → ℕ → Call
at calls i = get_or calls i free_call

-- the identifiers of the requests of a table that are open
unfoldable pub requests_of : List Call → List ℕ
requests_of [] = []
requests_of (c ∷ rest) = when requested c then c.identifier ∷ requests_of rest else requests_of rest

-- the identifiers of the open requests of a station and its table; document 02, Seven: "so "no two open requests share" covers both tables"
abbrev pub open_identifiers : Station → List Call → List ℕ
open_identifiers s calls = requests_of calls ++ identifiers_of (timers_of s.remote.pending)

-- "1 to 64 call records"
abbrev pub length_ok : List Call → Bool
length_ok calls = leb 1 (length calls) && leb (length calls) 64

-- "A table is sound when ..": each record is, with no T1 start after the last time, "and no two Requested records share an identifier";
-- document 02, Seven: nor any two open requests of both tables
abbrev pub sound_table : Station → List Call → Bool
sound_table s calls = all (sound_call s.last) calls && distinct (open_identifiers s calls)

-- "1: table empty, over 64 records or not sound, or limit outside 1 to 15"; document 02, Three: "an open request with 0, or a next
-- identifier 0, is 1"; Seven: "Soundness reaches the pending ones and the kept destinations too .. else 1": where it isn't given
unfoldable pub sound : Station → List Call → Bool
sound s calls = length_ok calls && station_ok s && sound_table s calls

-- "takes the first identifier from the next one on that no open request has"
abbrev pub identifier_for : Station → List Call → ℕ
identifier_for s calls = drawn (open_identifiers s calls) s.next

-- where an event acts: "An open takes the lowest free record."; a clock event ends "the lowest" that is due; else the call it
-- names. Where no record is free, and where none is due, it is the table's length; kinds 16 to 31 act on no record (`on_call`).
abbrev pub place : List Call → Event → ℕ
place calls e =
    when opens e then first is_free calls else
    when clock e then first (due e.time) calls else
    e.call
