-- When a call's request falls due, and a column of such times.
use Rattle.std.specs.Prelude.{ℕ, ◌+◌, ◌-◌, min, Bool, List, [], ◌∷◌, ltb, leb}
use Rattle.ground.specs.Choice.{when◌then◌else◌}
use Rattle.call.specs.declared.Call.{Call}
use Rattle.call.specs.Record.{requested}
use Rattle.timed.specs.Timed.{t1}

abbrev pub never : ℕ
never = 18446744073709551615

-- the last time at which a request isn't due yet, by T1
abbrev pub quiet_until : Call → ℕ
quiet_until c =
    when requested c then (when leb c.start (never - t1) then c.start + (t1 - 1) else never) else
    never

abbrev pub at_least : ℕ → ℕ → Bool
at_least m d = leb m d

abbrev pub under : ℕ → ℕ → Bool
under time d = ltb d time

-- the least of a column; never where it is empty
unfoldable pub soonest_of : List ℕ → ℕ
soonest_of [] = never
soonest_of (d ∷ rest) = min d (soonest_of rest)

-- the bound, found anew where it has passed
abbrev pub refreshed_of : ℕ → List ℕ → ℕ → ℕ
refreshed_of soon dues time = when ltb soon time then soonest_of dues else soon
