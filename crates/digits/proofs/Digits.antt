-- The digits of a number. Assumes nothing.
use Prim.Native.Nat.{ℕ, zero, suc, ◌+◌, ◌/◌, ◌%◌, ◌^◌, ◌≤◌, ◌<◌}
use mathlib.Core.List.{List, [], ◌∷◌, ◌++◌, append_assoc}
use mathlib.Core.Path.{◌≡◌, sym, ap, ◌∙◌}
use native.Mathlib.Omega.{arith}
use borrow.Author.Tests.{lt-ltb, le-ltb}
use lib.Dec.{ltb}
use lib.ListN.{length, length-append}
use Rattle.ground.proofs.Bools.{by_cases}
use Rattle.digits.specs.Digits.{digit, digits, decimal}
use Rattle.digits.specs.declared.Text.{Text}
use Rattle.digits.specs.Written.{Written}
use Rattle.digits.specs.Text.{Wrote}
use Rattle.digits.proofs.Texts.{and_then, wrote_at_most}

-- a number below a power of ten has that many digits at most
digits_within : (most k n : ℕ) → n < 10 ^ suc k → length (digits most n) ≤ suc k
unfolding digits
digits_within zero k n h = omega arith
digits_within (suc more) zero n h = rw (lt-ltb n 10 (omega arith)) (omega arith)
digits_within (suc more) (suc k) n h =
    by_cases (ltb n 10) (λ t. rw t (omega arith))
    (λ f. rw (f, length-append) (omega (arith, digits_within more k (n / 10) (omega arith))))

pub decimal_within : (k n : ℕ) → n < 10 ^ suc k → length (decimal n) ≤ suc k
decimal_within k n h = digits_within 20 k n h

-- the numbers of 8, 16 and 64 bits
module _ (n : ℕ) where
  pub decimal_8 : n < 256 → length (decimal n) ≤ 3
  decimal_8 h = decimal_within 2 n (omega arith)

  pub decimal_16 : n < 65536 → length (decimal n) ≤ 5
  decimal_16 h = decimal_within 4 n (omega arith)

  pub decimal_64 : n < 2 ^ 64 → length (decimal n) ≤ 20
  decimal_64 h = decimal_within 19 n (omega arith)

module _ {n : ℕ} {t u : Text} (w : Wrote 20 (decimal n) t u) where
  pub wrote_8 : n < 256 → Wrote 3 (decimal n) t u
  wrote_8 h = wrote_at_most w (decimal_8 n h)

  pub wrote_16 : n < 65536 → Wrote 5 (decimal n) t u
  wrote_16 h = wrote_at_most w (decimal_16 n h)

digits_one : (most n : ℕ) → n < 10 → digits (suc most) n ≡ digit n ∷ []
unfolding digits
digits_one most n h = rw (lt-ltb n 10 h)

digits_more : (most n : ℕ) → 10 ≤ n → digits (suc most) n ≡ digits most (n / 10) ++ (digit (n % 10) ∷ [])
unfolding digits
digits_more most n h = rw (le-ltb n 10 h)

-- one digit more than is needed changes nothing
digits_enough : (most n : ℕ) → n < 10 ^ suc most → digits (suc (suc most)) n ≡ digits (suc most) n
unfolding digits
digits_enough zero n h = rw (lt-ltb n 10 (omega arith))
digits_enough (suc most) n h =
    by_cases (ltb n 10) (λ t. rw t)
    (λ f. rw f (ap (λ l. l ++ (digit (n % 10) ∷ [])) (digits_enough most (n / 10) (omega arith))))

module _ (n : ℕ) where
  pub decimal_one : n < 10 → decimal n ≡ digit n ∷ []
  decimal_one h = digits_one 19 n h

  decimal_more : 10 ≤ n → n < 2 ^ 64 → decimal n ≡ decimal (n / 10) ++ (digit (n % 10) ∷ [])
  decimal_more h k =
      digits_more 19 n h ∙ ap (λ l. l ++ (digit (n % 10) ∷ [])) (sym (digits_enough 18 (n / 10) (omega arith)))

pub decimal_pair : (n : ℕ) → 10 ≤ n → n < 100 → decimal n ≡ digit (n / 10) ∷ digit (n % 10) ∷ []
decimal_pair n h k = decimal_more n h (omega arith) ∙ rw (decimal_one (n / 10) (omega arith))

-- the two last digits behind the others
pub decimal_two : (n : ℕ) → 100 ≤ n → n < 2 ^ 64 → decimal n ≡ decimal (n / 100) ++ (digit (n % 100 / 10) ∷ digit (n % 100 % 10) ∷ [])
decimal_two n h k =
    let a : n / 10 / 10 ≡ n / 100 = omega arith in
    let b : n / 10 % 10 ≡ n % 100 / 10 = omega arith in
    let c : n % 10 ≡ n % 100 % 10 = omega arith in
    decimal_more n (omega arith) k ∙ rw (decimal_more (n / 10) (omega arith) (omega arith), append_assoc, a, b, c)

-- two digits more still fit 20
pub two_more : (n : ℕ) → 100 ≤ n → n < 2 ^ 64 → length (decimal (n / 100)) + 2 ≤ 20
two_more n h k =
    let e : length (decimal n) ≡ length (decimal (n / 100)) + 2 = ap length (decimal_two n h k) ∙ length-append (decimal (n / 100)) _ in
    omega (arith, decimal_within 19 n (omega arith))

-- the number as it was written
pub written_two : (n at : ℕ) (old mid new : List ℕ) (next r : ℕ) → 100 ≤ n → n < 2 ^ 64 → at + 20 ≤ length old
    → Written (decimal (n / 100)) at old mid next → Written (digit (n % 100 / 10) ∷ digit (n % 100 % 10) ∷ []) next mid new r → Written (decimal n) at old new r
written_two n at old mid new next r h k l p q = rw (decimal_two n h k) (and_then p q (omega (arith, p.next, two_more n h k)))
