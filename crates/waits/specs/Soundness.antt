-- Document 02, Six: "soundness the kept ones (the first cfnr, the others cfu or cfb)"; "each code is in range, each party .. is not 0, each unused field is 0"
use Rattle.std.specs.Prelude.{ℕ, Bool, ◌&&◌, ◌||◌, not, eqb, leb, length, drop}
use Rattle.ground.specs.Choice.{when◌then◌else◌}
use Rattle.ground.specs.Lists.{all}
use Rattle.event.specs.Kinds.{cfu, cfb, cfnr, with_number}
use Rattle.notice.specs.declared.Dli1.{Dli1}
use Rattle.waits.specs.declared.Waits.{Waits}
use Rattle.waits.specs.Waits.{behind}

abbrev pub dli1_unused : Dli1 → Bool
dli1_unused d = eqb d.reason 0 && eqb d.option 0 && eqb d.number 0

-- "the first cfnr"
abbrev pub first_holds : Dli1 → Bool
first_holds d = eqb d.reason cfnr && leb d.option with_number && not (eqb d.number 0)

-- "the others cfu or cfb"
abbrev pub later_holds : Dli1 → Bool
later_holds d = (eqb d.reason cfu || eqb d.reason cfb) && leb d.option with_number && not (eqb d.number 0)

-- a record has 14 places behind the first
abbrev pub places_there : Waits → Bool
places_there w = eqb (length w.later) 14

-- "Up to 15 may wait, the first cfnr one included"
abbrev pub later_hold : Waits → Bool
later_hold w = places_there w && leb w.count 14 && all later_holds (behind w) && all dli1_unused (drop w.count w.later)

unfoldable pub waits_hold : Waits → Bool
waits_hold w = first_holds w.first && later_hold w

-- none waits
abbrev pub later_unused : Waits → Bool
later_unused w = places_there w && eqb w.count 0 && all dli1_unused w.later

unfoldable pub waits_unused : Waits → Bool
waits_unused w = dli1_unused w.first && later_unused w

-- what the place i behind the first may hold, where n wait there
abbrev pub place_holds : ℕ → ℕ → Dli1 → Bool
place_holds n i d = when leb n i then dli1_unused d else later_holds d
