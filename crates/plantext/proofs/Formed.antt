-- A text of the form of a plan is read without a fault. Assumes nothing.
use Prim.Native.Nat.{ℕ, ◌+◌, ◌-◌, ◌*◌, ◌≤◌, ◌<◌}
use mathlib.Core.Bool.{Bool, true, false, ◌||◌}
use mathlib.Core.List.{List, [], ◌∷◌, ◌++◌}
use mathlib.Core.Path.{◌≡◌, refl, sym, ◌∙◌}
use native.Mathlib.Omega.{arith}
use borrow.Author.Tests.{eq-eqb, le-leb, lt-leb, lt-ltb}
use Rattle.std.specs.Prelude.{None}
use lib.Dec.{ltb, leb}
use lib.ListN.{length, length-append}
use Rattle.ground.proofs.Bools.{by_cases}
use Rattle.digits.specs.Digits.{digit, space, newline}
use Rattle.plantext.specs.declared.Reading.{Reading}
use Rattle.plantext.specs.Text.{beginning, onward, numbers_before, byte_read, text_read, closing}
use Rattle.plantext.specs.Form.{Digits, none, more, Number, Numbers, one, and, Lines, start, panel, whole, unended, ReadsAll}
use Rattle.plantext.proofs.Faults.{pieces_as_one}
use Rattle.plantext.proofs.LastLine.{onward_up}
use Rattle.plantext.proofs.Form.{some_numbers, none_before}

-- a reading without fault: its line, the numbers behind it, and the one that is being read
record In (l k : ℕ) (b : Bool) (v : ℕ) (r : Reading) : Type 0 where
  line : r.line ≡ l
  numbers : r.numbers ≡ k
  begun : r.begun ≡ b
  value : r.value ≡ v
  sound : r.fault ≡ None

module _ (l k : ℕ) (r : Reading) where
  digit_in : (b : Bool) (v d : ℕ) → d ≤ 9 → v * 10 + d ≤ 65535 → In l k b v r → In l k true (v * 10 + d) (text_read r (digit d ∷ []))
  unfolding text_read byte_read
  digit_in b v d h f w =
      let e : 48 + d - 48 ≡ d = omega arith in
      rw (w.sound, le-leb 48 (48 + d) (omega arith), le-leb (48 + d) 57 (omega arith), e, w.value, le-leb (v * 10 + d) 65535 f)
      record { line = w.line; numbers = w.numbers; begun = refl; value = refl; sound = refl }

  space_in : {v : ℕ} → k < numbers_before l → In l k true v r → In l (k + 1) false 0 (text_read r space)
  unfolding text_read byte_read
  space_in h w =
      rw (w.sound, w.begun, w.numbers, w.line, lt-ltb k (numbers_before l) h)
      record { line = refl; numbers = refl; begun = refl; value = refl; sound = refl }

  newline_in : {v : ℕ} → k ≡ numbers_before l → In l k true v r → In (onward l) 0 false 0 (text_read r newline)
  unfolding text_read byte_read
  newline_in h w =
      rw (w.sound, w.begun, w.numbers, w.line, eq-eqb k (numbers_before l) h)
      record { line = refl; numbers = refl; begun = refl; value = refl; sound = refl }

-- a text after another
both_read : (r : Reading) (x y : List ℕ) → text_read r (x ++ y) ≡ text_read (text_read r x) y
both_read r x y = (pieces_as_one r x y []).0

-- one byte is a text
one_byte : (r : Reading) (byte : ℕ) → text_read r (byte ∷ []) ≡ byte_read r byte
unfolding text_read
one_byte r byte = refl

module _ (l k : ℕ) (r : Reading) (w : In l k false 0 r) where
  digits_in : {n : ℕ} {a : List ℕ} → Digits n a → n ≤ 65535 → In l k (ltb 0 (length a)) n (text_read r a)
  unfolding text_read
  digits_in none f = w
  digits_in (more {n} {bytes = a} d h x) f =
      rw (lt-ltb 0 (length (a ++ (digit d ∷ []))) (omega (arith, length-append a (digit d ∷ []))), both_read r a (digit d ∷ []))
      (digit_in l k (text_read r a) (ltb 0 (length a)) n d h f (digits_in x (omega arith)))

  number_in : {n : ℕ} {a : List ℕ} → Number n a → In l k true n (text_read r a)
  number_in {n} {a} x = rw (lt-ltb 0 (length a) x.some) at (digits_in x.digits x.fits)

-- the last number of a line, so far
data Ended (l k : ℕ) (r : Reading) : Type 0 where
  ended : {v : ℕ} → In l k true v r → Ended l k r

space_ended : {l k : ℕ} {r : Reading} → k < numbers_before l → Ended l k r → In l (k + 1) false 0 (text_read r space)
space_ended {l} {k} {r} h (ended w) = space_in l k r h w

newline_ended : {l k : ℕ} {r : Reading} → k ≡ numbers_before l → Ended l k r → In (onward l) 0 false 0 (text_read r newline)
newline_ended {l} {k} {r} h (ended w) = newline_in l k r h w

module _ (l : ℕ) (r : Reading) (w : In l 0 false 0 r) where
  numbers_in : {k : ℕ} {a : List ℕ} → Numbers k a → k ≤ numbers_before l + 1 → Ended l (k - 1) (text_read r a)
  numbers_in (one x) f = ended (number_in l 0 r w x)
  numbers_in (and {k} {n} {a} {b} x y) f =
      let some = some_numbers x in
      let e : k - 1 + 1 ≡ k = omega arith in
      let e' : k + 1 - 1 ≡ k = omega arith in
      let spaced : In l (k - 1 + 1) false 0 (text_read (text_read r a) space) = space_ended (omega arith) (numbers_in x (omega arith)) in
      rw (e', both_read r a (space ++ b), both_read (text_read r a) space b) (ended (number_in l k (text_read (text_read r a) space) (rw e at spaced) y))

-- at the beginning of a panel's line
data Lined (r : Reading) : Type 0 where
  lined : {l : ℕ} → 2 ≤ l → In l 0 false 0 r → Lined r

panel_in : {r : Reading} {b : List ℕ} → Lined r → Numbers 5 b → Lined (text_read r (b ++ newline))
panel_in {r} {b} (lined {l} h w) x =
    let e : numbers_before l ≡ 4 = rw (lt-leb l 1 h) in
    rw (both_read r b newline) (lined (onward_up l (omega arith)) (newline_ended (sym e) (numbers_in l r w x (omega arith))))

at_beginning : In 1 0 false 0 beginning
at_beginning = record { line = refl; numbers = refl; begun = refl; value = refl; sound = refl }

lines_in : {a : List ℕ} → Lines a → Lined (text_read beginning a)
lines_in (start {a} x) = rw (both_read beginning a newline) (lined {l = 2} (omega arith) (newline_ended refl (numbers_in 1 beginning at_beginning x (omega arith))))
lines_in (panel {a} {b} x y) = rw (both_read beginning a (b ++ newline)) (panel_in (lines_in x) y)

-- where a line ended nothing is left to close
closed_in : {r : Reading} → Lined r → (text_read r (closing r)).fault ≡ None
unfolding text_read
closed_in {r} (lined {l} h w) = rw (w.begun, w.numbers, w.line, lt-leb l 1 h) w.sound

-- and where none did, a newline is put behind or not
unended_in : (r : Reading) → (byte_read r 10).fault ≡ None → (text_read r (closing r)).fault ≡ None
unfolding text_read
unended_in r h = by_cases (r.begun || ltb 0 r.numbers || leb r.line 1) (λ t. rw t h) (λ f. rw f (none_before r 10 h))

sound_in : {r : Reading} → Lined r → r.fault ≡ None
sound_in (lined h w) = w.sound

pub reads_all : ReadsAll
reads_all text (whole x) = closed_in (lines_in x)
reads_all text (unended x) =
    let r = text_read beginning text in
    let e : text_read beginning (text ++ newline) ≡ byte_read r 10 = both_read beginning text newline ∙ one_byte r 10 in
    unended_in r (rw e at (sound_in (lines_in x)))
