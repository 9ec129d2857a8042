-- The form of a plan's text, said without the reader: such a text is read without a fault, and no other is. The theorems are in
-- proofs/Form and proofs/Formed.
use Rattle.std.specs.Prelude.{ℕ, ◌+◌, ◌*◌, ◌≤◌, ◌≡◌, List, [], ◌∷◌, ◌++◌, None, length}
use Rattle.digits.specs.Digits.{digit, space, newline}
use Rattle.plantext.specs.Text.{whole_read}

-- decimal digits, bytes 48 to 57, with their value; zeros may lead
pub data Digits : ℕ → List ℕ → Type 0 where
  none : Digits 0 []
  more : {n : ℕ} {bytes : List ℕ} (d : ℕ) → d ≤ 9 → Digits n bytes → Digits (n * 10 + d) (bytes ++ (digit d ∷ []))

-- "a number": one digit or more, up to 65,535
pub record Number (n : ℕ) (bytes : List ℕ) : Type 0 where
  pub digits : Digits n bytes
  pub some : 1 ≤ length bytes
  pub fits : n ≤ 65535

-- so many "numbers with one space between"
pub data Numbers : ℕ → List ℕ → Type 0 where
  one : {n : ℕ} {a : List ℕ} → Number n a → Numbers 1 a
  and : {k n : ℕ} {a b : List ℕ} → Numbers k a → Number n b → Numbers (k + 1) (a ++ (space ++ b))

-- whole lines: "the start panel's number in the first line, then a line for each panel", of five numbers
pub data Lines : List ℕ → Type 0 where
  start : {a : List ℕ} → Numbers 1 a → Lines (a ++ newline)
  panel : {a b : List ℕ} → Lines a → Numbers 5 b → Lines (a ++ (b ++ newline))

-- the last newline may be missing
pub data PlanForm : List ℕ → Type 0 where
  whole : {text : List ℕ} → Lines text → PlanForm text
  unended : {text : List ℕ} → Lines (text ++ newline) → PlanForm text

-- A text that is read without a fault is a plan's.
abbrev pub ReadsOnly : Type 0
ReadsOnly = (text : List ℕ) → (whole_read text).fault ≡ None → PlanForm text

-- And a text of this form is read without one.
abbrev pub ReadsAll : Type 0
ReadsAll = (text : List ℕ) → PlanForm text → (whole_read text).fault ≡ None
