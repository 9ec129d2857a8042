-- "The station and its work": what a station keeps, how it starts, and what an answer holds.
use Rattle.std.specs.Prelude.{ℕ, Bool, ◌&&◌, not, leb, eqb}
use Rattle.ground.specs.Choice.{when◌then◌else◌}
use Rattle.notice.specs.Notice.{marked, no_notice, no_number}
use Rattle.call.specs.Messages.{no_identifier, no_counter, nothing}
use Rattle.remote.specs.Held.{fresh, mark_ok, remote_holds}
use Rattle.station.specs.declared.Station.{Station}
use Rattle.station.specs.declared.Answer.{Answer}
use Rattle.station.specs.declared.Made.{Made}

-- "its diversion limit (1 to 15)"
abbrev pub limit_ok : ℕ → Bool
limit_ok limit = leb 1 limit && leb limit 15

-- document 02, Three: "a station whose next identifier is 0 isn't sound"
abbrev pub next_ok : ℕ → Bool
next_ok next = not (eqb next 0)

-- what is tested of a station: "limit outside 1 to 15", "a next identifier 0, is 1"; document 02, Seven: "Soundness reaches the
-- pending ones and the kept destinations too"
abbrev pub station_ok : Station → Bool
station_ok s = limit_ok s.limit && next_ok s.next && remote_holds s.last s.remote

-- "Fresh means last time 0, next identifier 65,535."; document 02, Seven: "two marks, remote activation enabled and diversion to us
-- allowed (a fresh station takes both ..)"
abbrev pub fresh_station : ℕ → ℕ → ℕ → Station
fresh_station limit enabled allowed = record { last = 0; next = 65535; limit = limit; remote = fresh enabled allowed }

abbrev pub no_station : Station
no_station = record { last = 0; next = 0; limit = 0; remote = fresh 0 0 }

-- what a fresh station takes
abbrev pub fresh_ok : ℕ → ℕ → ℕ → Bool
fresh_ok limit enabled allowed = limit_ok limit && mark_ok enabled && mark_ok allowed

-- "A fresh station takes a limit"; "3: .. a fresh station's limit outside 1 to 15 (no station is made)"; so is a mark above 1 (ours)
abbrev pub fresh_of : ℕ → ℕ → ℕ → Made
fresh_of limit enabled allowed =
    when fresh_ok limit enabled allowed then record { code = 0; station = fresh_station limit enabled allowed } else
    record { code = 3; station = no_station }

-- document 02, Four: "The short form of a fresh station shall use limit 5."; Seven: "short form and `panelrun`: both set"
abbrev pub short_limit : ℕ
short_limit = 5

abbrev pub short_form : Station
short_form = fresh_station short_limit marked marked

-- no call: 0 is one
abbrev pub no_call : ℕ
no_call = 255

-- "A refusal's answer is its number and otherwise empty"; so is that of a clock event with none due
abbrev pub empty_answer : ℕ → Answer
empty_answer code = record {
  code = code;
  call = no_call;
  sent = nothing;
  notice = no_notice;
  number = no_number;
  identifier = no_identifier;
  counter = no_counter;
}
