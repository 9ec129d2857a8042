-- "Numbers of the answers", of what code names.
use Rattle.std.specs.Prelude.{ℕ, Result, Ok, Err}
use Rattle.event.specs.declared.Refusal.{Refusal}
use Rattle.event.specs.declared.Refusal.TheVariants.{NotSound, Early, IllMade, NoSuchCall, OtherIdentifier, OverLimit, NoFreeRecord, PendingAlready, NotInBasicState, NotTaken}

-- each refusal's number
abbrev pub number_of : Refusal → ℕ
number_of NotSound = 1
number_of Early = 2
number_of IllMade = 3
number_of NoSuchCall = 4
number_of OtherIdentifier = 6
number_of OverLimit = 7
number_of NoFreeRecord = 8
number_of PendingAlready = 9
number_of NotInBasicState = 10
number_of NotTaken = 11

-- the code of the answer: 0 where the event is done
abbrev pub code_of : Result (Unit {0}) Refusal → ℕ
code_of (Ok _) = 0
code_of (Err r) = number_of r
