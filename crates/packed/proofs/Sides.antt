-- A field of numbers side by side is itself again. Assumes nothing.
use Prim.Native.Nat.{ℕ, ◌+◌, ◌*◌, ◌/◌, ◌%◌, ◌<◌}
use mathlib.Core.Path.{◌≡◌, refl}
use native.Mathlib.Omega.{arith}
use Rattle.call.specs.declared.Message.{Message}
use Rattle.packed.specs.Messages.{words_of, message_of}

-- six bytes, and what is above them
module _ (a b c d e f g : ℕ) (ha : a < 256) (hb : b < 256) (hc : c < 256) (hd : d < 256) (he : e < 256) (hf : f < 256) where
  abbrev w : ℕ
  w = a + 256 * b + 65536 * c + 16777216 * d + 4294967296 * e + 1099511627776 * f + 281474976710656 * g

  head_0 : w % 256 ≡ a
  head_0 = omega (arith, ha)

  head_1 : w / 256 % 256 ≡ b
  head_1 = let q : w / 256 ≡ b + 256 * (c + 256 * (d + 256 * (e + 256 * (f + 256 * g)))) = omega (arith, ha) in rw q (omega (arith, hb))

  head_2 : w / 65536 % 256 ≡ c
  head_2 = let q : w / 65536 ≡ c + 256 * (d + 256 * (e + 256 * (f + 256 * g))) = omega (arith, ha, hb) in rw q (omega (arith, hc))

  head_3 : w / 16777216 % 256 ≡ d
  head_3 = let q : w / 16777216 ≡ d + 256 * (e + 256 * (f + 256 * g)) = omega (arith, ha, hb, hc) in rw q (omega (arith, hd))

  head_4 : w / 4294967296 % 256 ≡ e
  head_4 = let q : w / 4294967296 ≡ e + 256 * (f + 256 * g) = omega (arith, ha, hb, hc, hd) in rw q (omega (arith, he))

  head_5 : w / 1099511627776 % 256 ≡ f
  head_5 = let q : w / 1099511627776 ≡ f + 256 * g = omega (arith, ha, hb, hc, hd, he) in rw q (omega (arith, hf))

  head_6 : w / 281474976710656 ≡ g
  head_6 = omega (arith, ha, hb, hc, hd, he, hf)

-- three pairs of bytes, and what is above them
module _ (a b c d : ℕ) (ha : a < 65536) (hb : b < 65536) (hc : c < 65536) where
  abbrev v : ℕ
  v = a + 65536 * b + 4294967296 * c + 281474976710656 * d

  rest_0 : v % 65536 ≡ a
  rest_0 = omega (arith, ha)

  rest_1 : v / 65536 % 65536 ≡ b
  rest_1 = let q : v / 65536 ≡ b + 65536 * (c + 65536 * d) = omega (arith, ha) in rw q (omega (arith, hb))

  rest_2 : v / 4294967296 % 65536 ≡ c
  rest_2 = let q : v / 4294967296 ≡ c + 65536 * d = omega (arith, ha, hb) in rw q (omega (arith, hc))

  rest_3 : v / 281474976710656 ≡ d
  rest_3 = omega (arith, ha, hb, hc)

-- a message by way of its words is itself
pub message_same : (m : Message) → m.letter < 256 → m.leg < 256 → m.reason < 256 → m.option < 256 → m.counter < 256 → m.flag < 256
    → m.destination < 65536 → m.diverting < 65536 → m.original < 65536 → message_of (words_of m) ≡ m
message_same m a b c d e f p q r =
    rw (
      head_0 m.letter m.leg m.reason m.option m.counter m.flag m.identifier a b c d e f,
      head_1 m.letter m.leg m.reason m.option m.counter m.flag m.identifier a b c d e f,
      head_2 m.letter m.leg m.reason m.option m.counter m.flag m.identifier a b c d e f,
      head_3 m.letter m.leg m.reason m.option m.counter m.flag m.identifier a b c d e f,
      head_4 m.letter m.leg m.reason m.option m.counter m.flag m.identifier a b c d e f,
      head_5 m.letter m.leg m.reason m.option m.counter m.flag m.identifier a b c d e f,
      head_6 m.letter m.leg m.reason m.option m.counter m.flag m.identifier a b c d e f,
      rest_0 m.destination m.diverting m.original m.number p q r,
      rest_1 m.destination m.diverting m.original m.number p q r,
      rest_2 m.destination m.diverting m.original m.number p q r,
      rest_3 m.destination m.diverting m.original m.number p q r,
    )
    refl
