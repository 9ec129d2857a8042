-- What is tested of a table's length and of the station, before the records.
use Rattle.std.specs.Prelude.{ℕ, Bool, ◌&&◌, leb}
use Rattle.station.specs.declared.Station.{Station}
use Rattle.station.specs.Station.{station_ok}

-- "1: table empty, over 64 records .., or limit outside 1 to 15"; document 02, Three: "a next identifier 0"; Seven: what it holds for kinds
-- 16 to 31
abbrev pub in_bounds : ℕ → Station → Bool
in_bounds len s = (leb 1 len && leb len 64) && station_ok s
