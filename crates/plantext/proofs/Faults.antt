-- A text in pieces, and a text with a fault. Assumes nothing.
use Prim.Native.Nat.{ℕ, ◌+◌, ◌≤◌, ◌<◌}
use mathlib.Core.Bool.{Bool, true, false}
use mathlib.Core.Logic.{◌⊎◌, inl, inr, ⊎_elim}
use mathlib.Core.List.{List, [], ◌∷◌, ◌++◌}
use mathlib.Core.Path.{◌≡◌, refl, sym, ap, ◌∙◌}
use native.Mathlib.Nat.{add-zero}
use native.Mathlib.Omega.{arith}
use borrow.Author.Tests.{lt-ltb, eqb-true}
use lib.ListN.{length}
use Rattle.std.specs.Prelude.{Option, Some, None, is_some}
use Rattle.std.proofs.lemmas.Option.{none-some}
use Rattle.ground.specs.Choice.{when◌then◌else◌}
use Rattle.ground.proofs.Bools.{by_cases}
use Rattle.plantext.specs.declared.Reading.{Reading}
use Rattle.plantext.specs.Text.{beginning, onward, at_fault, is_newline, whole_line, byte_read, stored, text_read, plan_after}
use Rattle.plantext.specs.Statements.{PiecesAsOne, FaultStays, newlines_in, FaultNamesLine}

-- no line is told, or one is
pub by_fault : (fault : Option ℕ) {P : Type 0} → (fault ≡ None → P) → ((fault ≡ None → ⊥) → P) → P
by_fault None sound faulty = sound refl
by_fault (Some line) sound faulty = faulty (λ e. none-some line (sym e))

pub told : (fault : Option ℕ) → (fault ≡ None → ⊥) → is_some fault ≡ true
told None h = absurd (h refl)
told (Some line) h = refl

pub untold : (fault : Option ℕ) → fault ≡ None → is_some fault ≡ false
untold fault e = ap is_some e

pub pieces_as_one : PiecesAsOne
unfolding text_read plan_after
pieces_as_one r [] other plan = (refl, refl)
pieces_as_one r (byte ∷ one) other plan = pieces_as_one (byte_read r byte) one other (stored r byte plan)

pub byte_behind : (r : Reading) (byte : ℕ) → (r.fault ≡ None → ⊥) → byte_read r byte ≡ r
unfolding byte_read
byte_behind r byte h = rw (told r.fault h)

pub fault_stays : FaultStays
unfolding text_read
fault_stays r [] h = refl
fault_stays r (byte ∷ rest) h = rw (byte_behind r byte h) (fault_stays r rest h)

-- a fault, or the same line
data Stays : Reading → Reading → Type 0 where
  faulty : {r next : Reading} → next ≡ at_fault r → Stays r next
  on : {r next : Reading} → next.fault ≡ None → next.line ≡ r.line → Stays r next

either : (r : Reading) (b : Bool) (x y : Reading) → Stays r x → Stays r y → Stays r (when b then x else y)
either r true x y p q = p
either r false x y p q = q

in_line : {r next : Reading} → Stays r next → (next ≡ at_fault r) ⊎ ((next.fault ≡ None) × (next.line ≡ r.line))
in_line (faulty e) = inl e
in_line (on e l) = inr (e, l)

other_stays : (r : Reading) (byte : ℕ) → r.fault ≡ None → is_newline byte ≡ false → Stays r (byte_read r byte)
unfolding byte_read
other_stays r byte e n = rw (e, n) (search (either, faulty, on))

newline_view : (r : Reading) → r.fault ≡ None → (byte_read r 10 ≡ at_fault r) ⊎ (((byte_read r 10).fault ≡ None) × ((byte_read r 10).line ≡ onward r.line))
unfolding byte_read
newline_view r e = rw e (by_cases (whole_line r) (λ k. rw k (inr (refl, refl))) (λ k. rw k (inl refl)))

-- a byte is a fault of its line, or goes on in it, or ends it
pub byte_view : (r : Reading) (byte : ℕ) → r.fault ≡ None
    → (byte_read r byte ≡ at_fault r)
    ⊎ (((byte_read r byte).fault ≡ None) × ((byte_read r byte).line ≡ when is_newline byte then onward r.line else r.line))
byte_view r byte e =
    by_cases (is_newline byte)
    (λ n. rw (eqb-true byte 10 n) (newline_view r e))
    (λ n. rw n (in_line (other_stays r byte e n)))

-- behind a faulty line; lines are counted from 1, and the fault of such a one is told
module _ (r : Reading) (l : 1 ≤ r.line) where
  pub faulty_told : (at_fault r).fault ≡ None → ⊥
  faulty_told q = grind (arith, q, l)

  pub stays_faulty : (rest : List ℕ) → text_read (at_fault r) rest ≡ at_fault r
  stays_faulty rest = fault_stays (at_fault r) rest faulty_told

-- a text with no fault is in the line behind its newlines
lines_read : (text : List ℕ) (r : Reading) → r.fault ≡ None → 1 ≤ r.line → r.line + length text < 18446744073709551616
    → (text_read r text).fault ≡ None → (text_read r text).line ≡ r.line + newlines_in text
unfolding text_read newlines_in
lines_read [] r e l b h = sym (add-zero r.line)
lines_read (byte ∷ rest) r e l b h =
    ⊎_elim
    (λ (q : byte_read r byte ≡ at_fault r).
    let faulty : text_read (byte_read r byte) rest ≡ at_fault r = rw q (stays_faulty r l rest) in
    absurd (faulty_told r l (sym (ap (λ (x : Reading). x.fault) faulty) ∙ h)))
    (λ (q : ((byte_read r byte).fault ≡ None) × ((byte_read r byte).line ≡ when is_newline byte then onward r.line else r.line)).
    by_cases (is_newline byte)
    (λ n.
    let line : (byte_read r byte).line ≡ r.line + 1 = rw (n, lt-ltb r.line 18446744073709551615 (omega arith)) at q.1 in
    rw n (omega (arith, lines_read rest (byte_read r byte) q.0 (omega arith) (omega arith) h)))
    (λ n.
    let line : (byte_read r byte).line ≡ r.line = rw n at q.1 in
    rw n (omega (arith, lines_read rest (byte_read r byte) q.0 (omega arith) (omega arith) h))))
    (byte_view r byte e)

pub fault_names_line : FaultNamesLine
unfolding text_read
fault_names_line text byte b e h =
    let r = text_read beginning text in
    let last : text_read beginning (text ++ (byte ∷ [])) ≡ byte_read r byte = (pieces_as_one beginning text (byte ∷ []) []).0 in
    let line : r.line ≡ 1 + newlines_in text = lines_read text beginning refl (omega arith) (omega arith) e in
    ⊎_elim
    (λ (q : byte_read r byte ≡ at_fault r). rw (last, q) (grind (arith, line)))
    (λ (q : ((byte_read r byte).fault ≡ None) × ((byte_read r byte).line ≡ when is_newline byte then onward r.line else r.line)). absurd (h (rw last q.0)))
    (byte_view r byte e)
