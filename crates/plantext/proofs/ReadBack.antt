-- Every plan that is written in this form reads back as itself. Assumes nothing.
use Prim.Native.Nat.{ℕ, zero, suc, ◌+◌, ◌-◌, ◌*◌, ◌/◌, ◌%◌, ◌^◌, ◌≤◌, ◌<◌}
use mathlib.Core.Bool.{Bool, true, false, ◌&&◌}
use mathlib.Core.List.{List, [], ◌∷◌, ◌++◌}
use mathlib.Core.Path.{◌≡◌, refl, ap, ◌∙◌}
use Rattle.std.specs.Prelude.{None}
use native.Mathlib.Nat.{add-zero, zero-add}
use native.Mathlib.Omega.{arith}
use borrow.Author.Tests.{lt-ltb, le-leb, lt-leb, ltb-true, leb-true, ne_eqb}
use lib.Dec.{T, ltb, leb}
use lib.ListN.{length, take, drop, length-append, length-take, length-drop}
use lib.Seq.{paste-zero, take_at}
use Rattle.ground.specs.Lists.{all}
use Rattle.ground.proofs.Bools.{and_l, and_r, is_true, by_cases}
use Rattle.digits.specs.Digits.{digit, digits, decimal, space, newline}
use Rattle.digits.specs.Written.{wrote}
use Rattle.digits.proofs.Texts.{wrote_on}
use Rattle.rehearsal.specs.Plan.{panels_of}
use Rattle.plantext.specs.declared.Reading.{Reading}
use Rattle.plantext.specs.Text.{beginning, byte_read, mark_byte, packed, place_of, stored, text_read, plan_after, closing, numbers_lent}
use Rattle.plantext.specs.Statements.{Row, row_text, rows_text, plan_text, numbers_of, row_fits, ReadsBack, PanelsBack}
use Rattle.plantext.proofs.Faults.{pieces_as_one}

-- a reading with no fault
abbrev here : ℕ → ℕ → Bool → ℕ → ℕ → ℕ → ℕ → ℕ → ℕ → Reading
here line numbers begun value start cfu cfb cfnr busy = record {
  line = line;
  numbers = numbers;
  begun = begun;
  value = value;
  start = start;
  cfu = cfu;
  cfb = cfb;
  cfnr = cfnr;
  busy = busy;
  fault = None;
}

-- a text leads from one reading and plan to others
record Leads (text : List ℕ) (r : Reading) (plan : List ℕ) (r' : Reading) (plan' : List ℕ) : Type 0 where
  reading : text_read r text ≡ r'
  panels : plan_after r text plan ≡ plan'

then : {a b : List ℕ} {r r' r'' : Reading} {p p' p'' : List ℕ} → Leads a r p r' p' → Leads b r' p' r'' p'' → Leads (a ++ b) r p r'' p''
then {a} {b} {r} {r'} {r''} {p} v w = record {
  reading = (pieces_as_one r a b p).0 ∙ rw v.reading w.reading;
  panels = (pieces_as_one r a b p).1 ∙ rw (v.reading, v.panels) w.panels;
}

fit : (n : ℕ) → T (leb n 65535) → n ≤ 65535
fit n t = leb-true n 65535 (is_true (leb n 65535) t)

module _ (line numbers start cfu cfb cfnr busy : ℕ) (plan : List ℕ) where
  one_digit : (begun : Bool) (value d : ℕ) → d < 10 → value * 10 + d ≤ 65535
      → Leads (digit d ∷ []) (here line numbers begun value start cfu cfb cfnr busy) plan (here line numbers true (value * 10 + d) start cfu cfb cfnr busy) plan
  unfolding text_read plan_after byte_read stored
  one_digit begun value d h k =
      let e : 48 + d - 48 ≡ d = omega arith in
      record {
        reading = rw (le-leb 48 (48 + d) (omega arith), le-leb (48 + d) 57 (omega arith), e, le-leb (value * 10 + d) 65535 k);
        panels = rw (ne_eqb (48 + d) 10 (λ q. omega (arith, q)));
      }

  digits_read : (more n : ℕ) → n < 10 ^ suc more → n ≤ 65535
      → Leads (digits (suc more) n) (here line numbers false 0 start cfu cfb cfnr busy) plan (here line numbers true n start cfu cfb cfnr busy) plan
  unfolding digits
  digits_read zero n h k = rw (lt-ltb n 10 (omega arith)) (rw zero-add at (one_digit false 0 n (omega arith) (omega arith)))
  digits_read (suc more) n h k =
      by_cases (ltb n 10)
      (λ t. rw t (rw zero-add at (one_digit false 0 n (ltb-true n 10 t) (omega arith))))
      (λ f.
      let e : n / 10 * 10 + n % 10 ≡ n = omega arith in
      rw f (then (digits_read more (n / 10) (omega arith) (omega arith)) (rw e at (one_digit true (n / 10) (n % 10) (omega arith) (omega arith)))))

  decimal_read : (n : ℕ) → n ≤ 65535
      → Leads (decimal n) (here line numbers false 0 start cfu cfb cfnr busy) plan (here line numbers true n start cfu cfb cfnr busy) plan
  decimal_read n k = digits_read 19 n (omega arith) k

-- in a panel's line
module _ (line : ℕ) (h : 2 ≤ line) (start : ℕ) (plan : List ℕ) where
  a_space : (numbers value cfu cfb cfnr busy : ℕ) → numbers < 4
      → Leads space (here line numbers true value start cfu cfb cfnr busy) plan (here line (numbers + 1) false 0 start cfb cfnr busy value) plan
  unfolding text_read plan_after byte_read stored
  a_space numbers value cfu cfb cfnr busy k = record {
    reading = rw (lt-leb line 1 (omega arith), lt-ltb numbers 4 k);
    panels = refl;
  }

  a_newline : (value cfu cfb cfnr busy : ℕ) → line < 18446744073709551615 → line ≤ length plan / 4 + 1
      → Leads newline (here line 4 true value start cfu cfb cfnr busy) plan (here (line + 1) 0 false 0 start cfu cfb cfnr busy)
      (wrote (packed cfu cfb cfnr busy value) (place_of line) plan)
  unfolding text_read plan_after byte_read stored
  a_newline value cfu cfb cfnr busy k m = record {
    reading = rw (lt-leb line 1 (omega arith), lt-ltb line 18446744073709551615 k);
    panels = rw (lt-leb line 1 (omega arith), le-leb 2 line h, le-leb line (length plan / 4 + 1) m);
  }

  row_read : (p : Row) (cfu cfb cfnr busy : ℕ) → T (row_fits p) → line < 18446744073709551615 → line ≤ length plan / 4 + 1
      → Leads (row_text p) (here line 0 false 0 start cfu cfb cfnr busy) plan (here (line + 1) 0 false 0 start p.cfu p.cfb p.cfnr p.busy)
      (wrote (packed p.cfu p.cfb p.cfnr p.busy p.unattended) (place_of line) plan)
  row_read p cfu cfb cfnr busy f k m =
      let u = leb p.cfu 65535 in
      let b = leb p.cfb 65535 in
      let n = leb p.cfnr 65535 in
      let y = leb p.busy 65535 in
      let a = leb p.unattended 65535 in
      let f4 = and_l (u && b && n && y) a f in
      let f3 = and_l (u && b && n) y f4 in
      let f2 = and_l (u && b) n f3 in
      let one = decimal_read line 0 start cfu cfb cfnr busy plan p.cfu (fit p.cfu (and_l u b f2)) in
      let two = decimal_read line 1 start cfb cfnr busy p.cfu plan p.cfb (fit p.cfb (and_r u b f2)) in
      let three = decimal_read line 2 start cfnr busy p.cfu p.cfb plan p.cfnr (fit p.cfnr (and_r (u && b) n f3)) in
      let four = decimal_read line 3 start busy p.cfu p.cfb p.cfnr plan p.busy (fit p.busy (and_r (u && b && n) y f4)) in
      let five = decimal_read line 4 start p.cfu p.cfb p.cfnr p.busy plan p.unattended (fit p.unattended (and_r (u && b && n && y) a f)) in
      then (then (then (then (then (then (then (then (then
      one (a_space 0 p.cfu cfu cfb cfnr busy (omega arith)))
      two) (a_space 1 p.cfb cfb cfnr busy p.cfu (omega arith)))
      three) (a_space 2 p.cfnr cfnr busy p.cfu p.cfb (omega arith)))
      four) (a_space 3 p.busy busy p.cfu p.cfb p.cfnr (omega arith)))
      five) (a_newline p.unattended p.cfu p.cfb p.cfnr p.busy k m)

-- a buffer that is written into keeps its length
wrote_long : (numbers : List ℕ) (at : ℕ) (old : List ℕ) → at + length numbers ≤ length old → length (wrote numbers at old) ≡ length old
wrote_long numbers at old h = rw (length-append (take at old ++ numbers), length-append (take at old), length-take, length-drop) (omega arith)

numbers_long : (rows : List Row) → length (numbers_of rows) ≡ length rows * 4
unfolding numbers_of
numbers_long [] = refl
numbers_long (p ∷ rest) = omega (arith, numbers_long rest)

-- at the beginning of a line
abbrev AtLine : ℕ → ℕ → Reading → Type 0
AtLine line start r = r ≡ here line 0 false 0 start r.cfu r.cfb r.cfnr r.busy

rows_read : (rows : List Row) (line start cfu cfb cfnr busy : ℕ) (plan : List ℕ) → T (all row_fits rows) → 2 ≤ line
    → line + length rows < 18446744073709551616 → place_of line + length rows * 4 ≤ length plan
    → AtLine (line + length rows) start (text_read (here line 0 false 0 start cfu cfb cfnr busy) (rows_text rows))
    × (plan_after (here line 0 false 0 start cfu cfb cfnr busy) (rows_text rows) plan ≡ wrote (numbers_of rows) (place_of line) plan)
unfolding text_read plan_after rows_text numbers_of all
rows_read [] line start cfu cfb cfnr busy plan f h k m = (rw add-zero, paste-zero plan (place_of line) [])
rows_read (p ∷ rest) line start cfu cfb cfnr busy plan f h k m =
    let r = here line 0 false 0 start cfu cfb cfnr busy in
    let now = packed p.cfu p.cfb p.cfnr p.busy p.unattended in
    let plan' = wrote now (place_of line) plan in
    let row = row_read line h start plan p cfu cfb cfnr busy (and_l (row_fits p) (all row_fits rest) f) (omega arith) (omega arith) in
    let whole = pieces_as_one r (row_text p) (rows_text rest) plan in
    let long : length plan' ≡ length plan = wrote_long now (place_of line) plan (omega arith) in
    let on = rows_read rest (line + 1) start p.cfu p.cfb p.cfnr p.busy plan' (and_r (row_fits p) (all row_fits rest) f) (omega arith) (omega arith) (omega arith) in
    let e : line + 1 + length rest ≡ line + suc (length rest) = omega arith in
    let q : place_of (line + 1) ≡ place_of line + 4 = omega arith in
    (rw (whole.0, row.reading) (rw e at on.0), rw (whole.1, row.reading, row.panels) (on.1 ∙ rw q (wrote_on now (place_of line) plan (omega arith) (numbers_of rest))))

-- the first line
first_ends : (start : ℕ) (plan : List ℕ) → Leads newline (here 1 0 true start 0 0 0 0 0) plan (here 2 0 false 0 start 0 0 0 0) plan
unfolding text_read plan_after byte_read stored
first_ends start plan = record { reading = refl; panels = refl }

start_read : (start : ℕ) (plan : List ℕ) → start ≤ 65535 → Leads (decimal start ++ newline) beginning plan (here 2 0 false 0 start 0 0 0 0) plan
start_read start plan h = then (decimal_read 1 0 0 0 0 0 0 plan start h) (first_ends start plan)

-- where a line ended nothing is left to close
none_closing : (line start : ℕ) (r : Reading) → AtLine line start r → 2 ≤ line → closing r ≡ []
none_closing line start r e h = ap closing e ∙ rw (lt-leb line 1 (omega arith))

pub reads_back : ReadsBack
unfolding text_read plan_after
reads_back start rows buffer s f room fits =
    let n = length rows in
    let text = plan_text start rows in
    let r = text_read beginning text in
    let first = start_read start buffer s in
    let whole = pieces_as_one beginning (decimal start ++ newline) (rows_text rows) buffer in
    let rest = rows_read rows 2 start 0 0 0 0 buffer f (omega arith) (omega arith) (omega arith) in
    let at : AtLine (2 + n) start r = rw (whole.0, first.reading) rest.0 in
    let plan : plan_after beginning text buffer ≡ wrote (numbers_of rows) 0 buffer = whole.1 ∙ rw (first.reading, first.panels) rest.1 in
    let over : closing r ≡ [] = none_closing (2 + n) start r at (omega arith) in
    let line : r.line - 2 ≡ n = omega (arith, ap (λ x. x.line) at) in
    let lent : n * 4 ≡ numbers_lent r (length buffer) = omega arith in (
      rw over (ap (λ x. x.fault) at),
      rw over (ap (λ x. x.start) at),
      rw over line,
      rw (over, plan) (take_at (numbers_of rows) (drop (0 + length (numbers_of rows)) buffer) (numbers_lent r (length buffer)) (numbers_long rows ∙ lent)),
    )

-- the marks come out of their number again
marks_apart : (busy unattended : ℕ) → ((mark_byte busy + mark_byte unattended * 256) % 256 ≡ mark_byte busy) × ((mark_byte busy + mark_byte unattended * 256) / 256 ≡ mark_byte unattended)
marks_apart busy unattended = (omega arith, omega arith)

pub panels_back : PanelsBack
unfolding panels_of numbers_of
panels_back [] = refl
panels_back (p ∷ rest) = let apart = marks_apart p.busy p.unattended in rw (apart.0, apart.1, panels_back rest)
