-- The numbers of kinds 16 to 31 as the code finds them: by the request of the event's sort, its kind and its identifier.
use Rattle.std.specs.Prelude.{ℕ, ◌&&◌, not, leb, eqb}
use Rattle.ground.specs.Choice.{when◌then◌else◌}
use Rattle.event.specs.Kinds.{AskActivation, AskCheck, ActivationResult, CheckError}
use Rattle.timed.specs.declared.Pending.{Pending}
use Rattle.timed.specs.Timed.{waits}

-- "a result or error with none pending is 5", after Eight 11, "with another identifier 6"; "16 to 19 with one of the same sort pending is 9"
abbrev pub number_of : Pending → ℕ → ℕ → ℕ
number_of p kind identifier =
    when (leb ActivationResult kind && leb kind CheckError) && not (waits p) then 11 else
    when (leb ActivationResult kind && leb kind CheckError) && not (eqb identifier p.identifier) then 6 else
    when (leb AskActivation kind && leb kind AskCheck) && waits p then 9 else
    0
