-- The last newline may be missing. Assumes nothing.
use Prim.Native.Nat.{ℕ, ◌≤◌}
use mathlib.Core.Logic.{◌⊎◌, inl, inr, ⊎_elim}
use mathlib.Core.List.{List, [], ◌∷◌}
use mathlib.Core.Path.{◌≡◌, refl, sym}
use native.Mathlib.Omega.{arith}
use borrow.Author.Tests.{lt-leb, ltb-false}
use lib.Dec.{ltb}
use Rattle.std.specs.Prelude.{None}
use Rattle.ground.specs.Choice.{when◌then◌else◌}
use Rattle.ground.proofs.Bools.{by_cases}
use Rattle.digits.specs.Digits.{newline}
use Rattle.plantext.specs.declared.Reading.{Reading}
use Rattle.plantext.specs.Text.{beginning, onward, at_fault, is_newline, whole_line, byte_read, stored, text_read, plan_after, closing}
use Rattle.plantext.specs.Statements.{LastNewline}
use Rattle.plantext.proofs.Faults.{by_fault, told, pieces_as_one, fault_stays, byte_behind, byte_view, faulty_told, stays_faulty}

-- behind a fault the plan stays
none_stored_behind : (r : Reading) (byte : ℕ) (plan : List ℕ) → (r.fault ≡ None → ⊥) → stored r byte plan ≡ plan
unfolding stored
none_stored_behind r byte plan h = rw (told r.fault h)

plan_stays : (r : Reading) (rest plan : List ℕ) → (r.fault ≡ None → ⊥) → plan_after r rest plan ≡ plan
unfolding plan_after
plan_stays r [] plan h = refl
plan_stays r (byte ∷ rest) plan h = rw (byte_behind r byte h, none_stored_behind r byte plan h) (plan_stays r rest plan h)

-- lines are counted from 1
pub onward_up : (line : ℕ) → 1 ≤ line → 2 ≤ onward line
onward_up line h =
    by_cases (ltb line 18446744073709551615) (λ t. rw t (omega arith)) (λ f. rw f (omega (arith, ltb-false line 18446744073709551615 f)))

byte_line : (r : Reading) (byte : ℕ) → 1 ≤ r.line → 1 ≤ (byte_read r byte).line
byte_line r byte h =
    by_fault r.fault
    (λ t.
    ⊎_elim
    (λ (q : byte_read r byte ≡ at_fault r). rw q h)
    (λ (q : ((byte_read r byte).fault ≡ None) × ((byte_read r byte).line ≡ when is_newline byte then onward r.line else r.line)).
    rw q.1 (by_cases (is_newline byte) (λ n. rw n (omega (arith, onward_up r.line h))) (λ n. rw n h)))
    (byte_view r byte t))
    (λ f. rw (byte_behind r byte f) h)

text_line : (text : List ℕ) (r : Reading) → 1 ≤ r.line → 1 ≤ (text_read r text).line
unfolding text_read
text_line [] r h = h
text_line (byte ∷ rest) r h = text_line rest (byte_read r byte) (byte_line r byte h)

-- behind a newline nothing is left to close, or there is a fault
newline_closes : (r : Reading) → 1 ≤ r.line → r.fault ≡ None → (closing (byte_read r 10) ≡ []) ⊎ (byte_read r 10 ≡ at_fault r)
unfolding byte_read
newline_closes r l e =
    rw e
    (by_cases (whole_line r)
    (λ k. rw k (inl (rw (lt-leb (onward r.line) 1 (omega (arith, onward_up r.line l))))))
    (λ k. rw k (inr refl)))

-- what follows a newline of the text's end changes nothing
module _ (r : Reading) (l : 1 ≤ r.line) where
  ends_once : (text_read (byte_read r 10) (closing (byte_read r 10)) ≡ byte_read r 10)
      × ((plan : List ℕ) → plan_after (byte_read r 10) (closing (byte_read r 10)) plan ≡ plan)
  unfolding text_read plan_after
  ends_once =
      by_fault r.fault
      (λ t.
      ⊎_elim
      (λ (q : closing (byte_read r 10) ≡ []). rw q (refl, λ plan. refl))
      (λ (q : byte_read r 10 ≡ at_fault r). rw q (stays_faulty r l (closing (at_fault r)), λ plan. plan_stays (at_fault r) (closing (at_fault r)) plan (faulty_told r l)))
      (newline_closes r l t))
      (λ f. rw (byte_behind r 10 f) (fault_stays r (closing r) f, λ plan. plan_stays r (closing r) plan f))

pub last_newline : LastNewline
unfolding text_read plan_after
last_newline text plan e =
    let r = text_read beginning text in
    let once = ends_once r (text_line text beginning (omega arith)) in
    let whole = pieces_as_one beginning text newline plan in
    (rw (e, whole.0) (sym once.0), rw (e, whole.0, whole.1) (sym (once.1 (stored r 10 (plan_after beginning text plan)))))
