-- A result of the code whose number, or whose turn, is told is determined by it: no two refusals have one number, and none has 0. Assumes nothing.
use Prim.Native.Nat.{ℕ}
use mathlib.Core.Path.{◌≡◌, refl, sym, ap, ◌∙◌}
use native.Mathlib.Omega.{arith}
use lib.Dec.{eqb}
use Rattle.std.specs.Prelude.{Result, Ok, Err}
use Rattle.ground.specs.Choice.{when◌then◌else◌}
use Rattle.event.specs.declared.Refusal.{Refusal}
use Rattle.event.specs.declared.Refusal.TheVariants.{NotSound, Early, IllMade, NoSuchCall, OtherIdentifier, OverLimit, NoFreeRecord, PendingAlready, NotInBasicState, NotTaken}
use Rattle.event.specs.Refusals.{number_of, code_of}
use Rattle.turn.specs.declared.DoneOn.{DoneOn}
use Rattle.turn.specs.declared.DoneOn.TheVariants.{Held, Record}
use Rattle.turn.specs.Turn.{Turn, Refused, Far, Done, turn_by}

-- the refusal of a number, and back
abbrev named : ℕ → Refusal
named n =
    when eqb n 1 then NotSound else
    when eqb n 2 then Early else
    when eqb n 3 then IllMade else
    when eqb n 4 then NoSuchCall else
    when eqb n 6 then OtherIdentifier else
    when eqb n 7 then OverLimit else
    when eqb n 8 then NoFreeRecord else
    when eqb n 9 then PendingAlready else
    when eqb n 10 then NotInBasicState else
    NotTaken

back : (r : Refusal) → named (number_of r) ≡ r
back NotSound = refl
back Early = refl
back IllMade = refl
back NoSuchCall = refl
back OtherIdentifier = refl
back OverLimit = refl
back NoFreeRecord = refl
back PendingAlready = refl
back NotInBasicState = refl
back NotTaken = refl

pub number_determined : (one other : Refusal) → number_of one ≡ number_of other → one ≡ other
number_determined one other p = sym (back one) ∙ ap named p ∙ back other

not_0 : (r : Refusal) → number_of r ≡ 0 → ⊥
not_0 NotSound p = omega (arith, p)
not_0 Early p = omega (arith, p)
not_0 IllMade p = omega (arith, p)
not_0 NoSuchCall p = omega (arith, p)
not_0 OtherIdentifier p = omega (arith, p)
not_0 OverLimit p = omega (arith, p)
not_0 NoFreeRecord p = omega (arith, p)
not_0 PendingAlready p = omega (arith, p)
not_0 NotInBasicState p = omega (arith, p)
not_0 NotTaken p = omega (arith, p)

-- two results that a contract `code_of result ≡ n` allows are equal
pub code_determined : (n : ℕ) (one other : Result (Unit {0}) Refusal) → code_of one ≡ n → code_of other ≡ n → one ≡ other
code_determined n (Ok _) (Ok _) p q = refl
code_determined n (Ok _) (Err r) p q = absurd (not_0 r (q ∙ sym p))
code_determined n (Err r) (Ok _) p q = absurd (not_0 r (p ∙ sym q))
code_determined n (Err r) (Err s) p q = ap Err (number_determined r s (p ∙ sym q))

-- and two that `turn_by result ≡ t` allows
abbrev result_by : Turn → Result DoneOn Refusal
result_by (Refused n) = Err (named n)
result_by Far = Ok Held
result_by Done = Ok Record

back_by : (r : Result DoneOn Refusal) → result_by (turn_by r) ≡ r
back_by (Ok Held) = refl
back_by (Ok Record) = refl
back_by (Err r) = ap Err (back r)

pub turn_determined : (t : Turn) (one other : Result DoneOn Refusal) → turn_by one ≡ t → turn_by other ≡ t → one ≡ other
turn_determined t one other p q = sym (back_by one) ∙ ap result_by (p ∙ sym q) ∙ back_by other
