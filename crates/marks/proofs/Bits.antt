-- A bit more in a number: it is set, and those that were set stay so. Assumes nothing.
use Prim.Native.Nat.{ℕ, ◌/◌, ◌%◌, ◌^◌, max}
use mathlib.Core.Path.{◌≡◌, sym, ap, ◌∙◌}
use native.Mathlib.Nat.{one-mul}
use native.Mathlib.Omega.{arith}
use lib.Bits.{bit_or, or_step, or_shr}
use lib.Pow.{shl-shr}

-- the lowest bit of two numbers, bit by bit
or_odd : (a b : ℕ) → bit_or a b % 2 ≡ max (a % 2) (b % 2)
or_odd a b = omega (arith, or_step a b)

odd_more : (a b : ℕ) → a % 2 ≡ 1 → bit_or a b % 2 ≡ 1
odd_more a b h = omega (arith, or_odd a b, h)

odd_with : (a b : ℕ) → b % 2 ≡ 1 → bit_or a b % 2 ≡ 1
odd_with a b h = omega (arith, or_odd a b, h)

pub bit_set : (m k : ℕ) → bit_or m (2 ^ k) / 2 ^ k % 2 ≡ 1
bit_set m k = ap (λ (x : ℕ). x % 2) (or_shr m (2 ^ k) k) ∙ odd_with (m / 2 ^ k) (2 ^ k / 2 ^ k) (ap (λ (x : ℕ). x / 2 ^ k % 2) (sym (one-mul (2 ^ k))) ∙ ap (λ (x : ℕ). x % 2) (shl-shr 1 k))

pub bit_stays : (m k j : ℕ) → m / 2 ^ j % 2 ≡ 1 → bit_or m (2 ^ k) / 2 ^ j % 2 ≡ 1
bit_stays m k j h = ap (λ (x : ℕ). x % 2) (or_shr m (2 ^ k) j) ∙ odd_more (m / 2 ^ j) (2 ^ k / 2 ^ j) h
