-- A field of numbers side by side is itself again. Assumes nothing.
use Prim.Native.Nat.{ℕ, ◌+◌, ◌*◌, ◌/◌, ◌%◌, ◌<◌}
use mathlib.Core.Path.{◌≡◌, refl}
use native.Mathlib.Omega.{arith}
use Rattle.event.specs.declared.Event.{Event}
use Rattle.decision.specs.Words.{head_word, codes_word, first_word, second_word, event_of}

-- four bytes
module _ (a b c d : ℕ) (ha : a < 256) (hb : b < 256) (hc : c < 256) where
  abbrev w : ℕ
  w = a + 256 * b + 65536 * c + 16777216 * d

  pub byte_0 : w % 256 ≡ a
  byte_0 = omega (arith, ha)

  pub byte_1 : w / 256 % 256 ≡ b
  byte_1 = let e : w / 256 ≡ b + 256 * (c + 256 * d) = omega (arith, ha) in rw e (omega (arith, hb))

  pub byte_2 : w / 65536 % 256 ≡ c
  byte_2 = let e : w / 65536 ≡ c + 256 * d = omega (arith, ha, hb) in rw e (omega (arith, hc))

  pub byte_3 : w / 16777216 ≡ d
  byte_3 = omega (arith, ha, hb, hc)

-- two pairs of bytes
module _ (a b : ℕ) (ha : a < 65536) where
  abbrev v : ℕ
  v = a + 65536 * b

  pub pair_0 : v % 65536 ≡ a
  pair_0 = omega (arith, ha)

  pub pair_1 : v / 65536 ≡ b
  pair_1 = omega (arith, ha)

-- an event by way of its words is itself
pub held_same : (e : Event) → e.kind < 256 → e.call < 256 → e.leg < 256 → e.reason < 256 → e.option < 256 → e.counter < 256 → e.identifier < 65536 → e.second < 65536 → event_of (head_word e) (codes_word e) (first_word e) (second_word e) e.time ≡ e
held_same e k c l r o n i s =
    rw (
      byte_0 e.kind e.call e.leg e.message k c l,
      byte_1 e.kind e.call e.leg e.message k c l,
      byte_2 e.kind e.call e.leg e.message k c l,
      byte_3 e.kind e.call e.leg e.message k c l,
      byte_0 e.reason e.option e.counter e.flag r o n,
      byte_1 e.reason e.option e.counter e.flag r o n,
      byte_2 e.reason e.option e.counter e.flag r o n,
      byte_3 e.reason e.option e.counter e.flag r o n,
      pair_0 e.identifier e.first i,
      pair_1 e.identifier e.first i,
      pair_0 e.second e.third s,
      pair_1 e.second e.third s,
    )
    refl
