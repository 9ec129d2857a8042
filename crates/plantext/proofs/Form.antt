-- A text that is read without a fault has the form of a plan. Assumes nothing.
use Prim.Native.Nat.{ℕ, ◌+◌, ◌-◌, ◌*◌, ◌≤◌}
use mathlib.Core.Bool.{Bool, true, false, ◌&&◌, ◌||◌}
use mathlib.Core.Logic.{◌⊎◌, inl, inr, ⊎_elim}
use mathlib.Core.List.{List, [], ◌∷◌, ◌++◌, append_assoc, append-nil}
use mathlib.Core.Path.{◌≡◌, refl, sym, ap, ◌∙◌}
use native.Mathlib.Omega.{arith}
use borrow.Author.Tests.{lt-leb, leb-true, leb-false, eqb-true, ltb-false}
use Rattle.std.specs.Prelude.{None}
use lib.Dec.{eqb, ltb, leb}
use lib.ListN.{length, length-append}
use Rattle.ground.proofs.Bools.{by_cases, nor_l, nor_r, is_false, from_false}
use Rattle.ground.proofs.Walks.{both}
use Rattle.digits.specs.Digits.{space, newline}
use Rattle.plantext.specs.declared.Reading.{Reading}
use Rattle.plantext.specs.Text.{beginning, numbers_before, at_fault, digit_read, space_read, whole_line, newline_read, is_digit, is_newline, byte_read, text_read}
use Rattle.plantext.specs.Form.{Digits, none, more, Number, Numbers, one, and, Lines, start, panel, whole, unended, ReadsOnly}
use Rattle.plantext.proofs.Faults.{by_fault, untold, byte_behind, faulty_told, stays_faulty}
use Rattle.plantext.proofs.LastLine.{onward_up}

-- the whole lines before the line that is being read
data Before : ℕ → List ℕ → Type 0 where
  nothing : Before 1 []
  lines : {line : ℕ} {a : List ℕ} → 2 ≤ line → Lines a → Before line a

-- the numbers before the one that is being read, and the space behind them
data Spaced : ℕ → List ℕ → Type 0 where
  nothing : Spaced 0 []
  numbers : {k : ℕ} {a : List ℕ} → Numbers k a → Spaced k (a ++ space)

-- the digits of the number that is being read
data Begun : Bool → List ℕ → Type 0 where
  nothing : Begun false []
  digits : {a : List ℕ} → 1 ≤ length a → Begun true a

-- a reading without fault, and the text that it has read
record Read (r : Reading) (done : List ℕ) : Type 0 where
  lines : List ℕ
  numbers : List ℕ
  digits : List ℕ
  all : done ≡ lines ++ (numbers ++ digits)
  before : Before r.line lines
  spaced : Spaced r.numbers numbers
  value : Digits r.value digits
  begun : Begun r.begun digits
  fits : r.value ≤ 65535
  sound : r.fault ≡ None

line_up : {line : ℕ} {a : List ℕ} → Before line a → 1 ≤ line
line_up nothing = omega arith
line_up (lines h w) = omega arith

some_digits : {a : List ℕ} → Begun true a → 1 ≤ length a
some_digits (digits h) = h

no_digits : {a : List ℕ} → Begun false a → a ≡ []
no_digits nothing = refl

whole_lines : {line : ℕ} {a : List ℕ} → Before line a → 2 ≤ line → Lines a
whole_lines nothing h = absurd (omega arith)
whole_lines (lines k a) h = a

pub some_numbers : {k : ℕ} {a : List ℕ} → Numbers k a → 1 ≤ k
some_numbers (one a) = omega arith
some_numbers (and a b) = omega arith

no_numbers : {k : ℕ} {a : List ℕ} → Spaced k a → k ≤ 0 → a ≡ []
no_numbers nothing h = refl
no_numbers (numbers a) h = absurd (omega (arith, some_numbers a))

-- with the next number
one_more : {k n : ℕ} {a b : List ℕ} → Spaced k a → Number n b → Numbers (k + 1) (a ++ b)
one_more nothing b = one b
one_more (numbers a) b = rw append_assoc (and a b)

-- with the line that ends
line_ends : {line : ℕ} {a b : List ℕ} → Before line a → Numbers (numbers_before line + 1) b → Lines (a ++ (b ++ newline))
line_ends nothing b = start b
line_ends (lines h a) b = panel a (rw (lt-leb _ 1 h) at b)

-- a fault, or read
abbrev GoesOn : Reading → List ℕ → ℕ → Reading → Type 0
GoesOn r done byte next = (next ≡ at_fault r) ⊎ Read next (done ++ (byte ∷ []))

module _ (r : Reading) (done : List ℕ) (w : Read r done) where
  -- the number that is being read, once it has a digit
  number : r.begun ≡ true → Number r.value w.digits
  number t = record { digits = w.value; some = some_digits (rw t at w.begun); fits = w.fits }

  -- a byte more
  longer : (byte : ℕ) → done ++ (byte ∷ []) ≡ w.lines ++ ((w.numbers ++ w.digits) ++ (byte ∷ []))
  longer byte = rw (w.all, append_assoc)

  digit_kept : (byte : ℕ) → is_digit byte ≡ true → GoesOn r done byte (digit_read r (byte - 48))
  digit_kept byte t =
      let parts = both (leb 48 byte) (leb byte 57) t in
      let low = leb-true 48 byte parts.0 in
      let high = leb-true byte 57 parts.1 in
      let e : 48 + (byte - 48) ≡ byte = omega arith in
      by_cases (leb (r.value * 10 + (byte - 48)) 65535)
      (λ k.
      rw k
      (inr record {
        lines = w.lines;
        numbers = w.numbers;
        digits = w.digits ++ (byte ∷ []);
        all = longer byte ∙ rw append_assoc;
        before = w.before;
        spaced = w.spaced;
        value = rw e at (more (byte - 48) (omega arith) w.value);
        begun = digits {a = w.digits ++ (byte ∷ [])} (omega (arith, length-append w.digits (byte ∷ [])));
        fits = leb-true _ _ k;
        sound = w.sound;
      }))
      (λ k. rw k (inl refl))

  space_kept : GoesOn r done 32 (space_read r)
  space_kept =
      by_cases (r.begun && ltb r.numbers (numbers_before r.line))
      (λ k.
      rw k
      (inr record {
        lines = w.lines;
        numbers = (w.numbers ++ w.digits) ++ space;
        digits = [];
        all = longer 32 ∙ rw append-nil;
        before = w.before;
        spaced = numbers (one_more w.spaced (number (both r.begun _ k).0));
        value = none;
        begun = nothing;
        fits = omega arith;
        sound = w.sound;
      }))
      (λ k. rw k (inl refl))

  -- a line that has all its numbers is one more
  newline_ends : whole_line r ≡ true → Lines (done ++ newline)
  newline_ends k =
      let parts = both r.begun (eqb r.numbers (numbers_before r.line)) k in
      let e : r.numbers ≡ numbers_before r.line = eqb-true _ _ parts.1 in
      rw (longer 10) (line_ends w.before (rw e at (one_more w.spaced (number parts.0))))

  newline_kept : GoesOn r done 10 (newline_read r)
  newline_kept =
      by_cases (whole_line r)
      (λ k.
      rw k
      (inr record {
        lines = done ++ newline;
        numbers = [];
        digits = [];
        all = sym (append-nil (done ++ newline));
        before = lines (onward_up r.line (line_up w.before)) (newline_ends k);
        spaced = nothing;
        value = none;
        begun = nothing;
        fits = omega arith;
        sound = w.sound;
      }))
      (λ k. rw k (inl refl))

  byte_kept : (byte : ℕ) → GoesOn r done byte (byte_read r byte)
  unfolding byte_read
  byte_kept byte =
      rw (untold r.fault w.sound)
      (by_cases (is_digit byte)
      (λ d. rw d (digit_kept byte d))
      (λ d.
      rw d
      (by_cases (eqb byte 32)
      (λ s. rw (eqb-true byte 32 s) space_kept)
      (λ s.
      rw s
      (by_cases (is_newline byte)
      (λ n. rw (eqb-true byte 10 n) newline_kept)
      (λ n. rw n (inl refl)))))))

text_read_lem : (text : List ℕ) (r : Reading) (done : List ℕ) → Read r done → (text_read r text).fault ≡ None → Read (text_read r text) (done ++ text)
unfolding text_read
text_read_lem [] r done w h = rw append-nil w
text_read_lem (byte ∷ rest) r done w h =
    ⊎_elim
    (λ (q : byte_read r byte ≡ at_fault r).
    let faulty : text_read (byte_read r byte) rest ≡ at_fault r = rw q (stays_faulty r (line_up w.before) rest) in
    absurd (faulty_told r (line_up w.before) (sym (ap (λ (x : Reading). x.fault) faulty) ∙ h)))
    (λ (q : Read (byte_read r byte) (done ++ (byte ∷ []))). rw append_assoc at (text_read_lem rest (byte_read r byte) (done ++ (byte ∷ [])) q h))
    (byte_kept r done w byte)

-- before the first byte nothing is read
at_beginning : Read beginning []
at_beginning = record {
  lines = [];
  numbers = [];
  digits = [];
  all = refl;
  before = nothing;
  spaced = nothing;
  value = none;
  begun = nothing;
  fits = omega arith;
  sound = refl;
}

-- at the text's end, where a line is to be closed
closed : (r : Reading) (text : List ℕ) → Read r text → (byte_read r 10).fault ≡ None → Lines (text ++ newline)
unfolding byte_read
closed r text w h =
    by_cases (whole_line r)
    (newline_ends r text w)
    (λ f. absurd (faulty_told r (line_up w.before) (rw (w.sound, f) at h)))

-- and where none is
nothing_left : (r : Reading) (text : List ℕ) → Read r text → r.begun || ltb 0 r.numbers || leb r.line 1 ≡ false → Lines text
nothing_left r text w f =
    let n = ltb 0 r.numbers in
    let l = leb r.line 1 in
    let none_of = from_false (r.begun || n || l) f in
    let neither = nor_l (r.begun || n) l none_of in
    let b : w.digits ≡ [] = no_digits (rw (is_false r.begun (nor_l r.begun n neither)) at w.begun) in
    let k : w.numbers ≡ [] = no_numbers w.spaced (ltb-false _ _ (is_false n (nor_r r.begun n neither))) in
    rw (w.all, k, b, append-nil) (whole_lines w.before (leb-false _ _ (is_false l (nor_r (r.begun || n) l none_of))))

-- behind a fault there is none without
pub none_before : (r : Reading) (byte : ℕ) → (byte_read r byte).fault ≡ None → r.fault ≡ None
none_before r byte h = by_fault r.fault (λ e. e) (λ f. rw (byte_behind r byte f) at h)

pub reads_only : ReadsOnly
unfolding text_read
reads_only text h =
    let r = text_read beginning text in
    by_cases (r.begun || ltb 0 r.numbers || leb r.line 1)
    (λ t.
    let last : (byte_read r 10).fault ≡ None = rw t at h in
    unended (closed r text (text_read_lem text beginning [] at_beginning (none_before r 10 last)) last))
    (λ f. whole (nothing_left r text (text_read_lem text beginning [] at_beginning (rw f at h)) f))
