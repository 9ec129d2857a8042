-- Document 02, Seven: "New kinds, in this order of sorts: 16 to 19 our user's request, 20 to 23 the invoke received, 24 to 27 a result,
-- 28 to 31 an error or reject." Which of these a kind is, its sort, and its fields.
use Rattle.std.specs.Prelude.{ℕ, ◌%◌, Bool, ◌&&◌, ◌||◌, not, leb, eqb}
use Rattle.ground.specs.Choice.{when◌then◌else◌, exactly, only}
use Rattle.event.specs.declared.Event.{Event}
use Rattle.event.specs.Kinds.{cfu, cfnr, AskActivation, AskCheck, ActivationInvoke, CheckInvoke, ActivationResult, InterrogationResult, CheckResult, CheckError}

-- "in this order of sorts"
abbrev pub activation : ℕ
activation = 0

abbrev pub deactivation : ℕ
deactivation = 1

abbrev pub interrogation : ℕ
interrogation = 2

abbrev pub check : ℕ
check = 3

abbrev pub sorts : ℕ
sorts = 4

-- the sort of a kind: each role has four kinds, and 16 is a multiple of four
abbrev pub sort_of : Event → ℕ
sort_of e = e.kind % sorts

-- "16 to 19 our user's request"
abbrev pub asks : Event → Bool
asks e = leb AskActivation e.kind && leb e.kind AskCheck

-- "20 to 23 the invoke received"
abbrev pub receives : Event → Bool
receives e = leb ActivationInvoke e.kind && leb e.kind CheckInvoke

-- "24 to 27 a result"
abbrev pub results : Event → Bool
results e = leb ActivationResult e.kind && leb e.kind CheckResult

-- a result, or an error or reject
abbrev pub answers_ours : Event → Bool
answers_ours e = leb ActivationResult e.kind && leb e.kind CheckError

-- kinds 16 to 31
abbrev pub of_remote : Event → Bool
of_remote e = leb AskActivation e.kind && leb e.kind CheckError

-- "16 to 23"
abbrev pub invokes : Event → Bool
invokes e = leb AskActivation e.kind && leb e.kind CheckInvoke

-- "reason (type 1 to 3) except in a check"
abbrev pub type_fits : Event → Bool
type_fits e =
    when invokes e && not (eqb (sort_of e) check) then leb cfu e.reason && leb e.reason cfnr else
    eqb e.reason 0

-- "in activation second (destination, not 0)", "26 also second (not 0)"
abbrev pub has_destination : Event → Bool
has_destination e = eqb e.kind AskActivation || eqb e.kind ActivationInvoke || eqb e.kind InterrogationResult

-- "A field that a kind doesn't use is 0.": kinds 16 to 31 name no call
abbrev pub others_zero : Event → Bool
others_zero e =
    eqb e.call 0 && eqb e.leg 0 && eqb e.message 0 && eqb e.option 0 && eqb e.counter 0 && eqb e.flag 0
    && eqb e.third 0

-- the fields of kinds 16 to 31, one rule for all: "16 to 23 use first (far panel, not 0) ..; 20 to 31 use identifier"
unfoldable pub remote_fields : Event → Bool
remote_fields e =
    others_zero e && exactly (invokes e) (not (eqb e.first 0)) && type_fits e
    && exactly (has_destination e) (not (eqb e.second 0)) && only (asks e) (eqb e.identifier 0)
