-- The text of a plan: the start panel's number in the first line, then a line for each panel, `cfu cfb cfnr busy unattended`.
-- Numbers are decimal, up to 65,535, with one space between, and a newline ends each line; the last one may lack it.
use Rattle.std.specs.Prelude.{ℕ, ◌+◌, ◌-◌, ◌*◌, ◌/◌, min, Bool, true, false, ◌&&◌, ◌||◌, not, List, [], ◌∷◌, Some, None, is_none, eqb, ltb, leb, length}
use Rattle.ground.specs.Choice.{when◌then◌else◌}
use Rattle.digits.specs.Written.{wrote}
use Rattle.plantext.specs.declared.Reading.{Reading}

-- before the first byte
abbrev pub beginning : Reading
beginning = record { line = 1; numbers = 0; begun = false; value = 0; start = 0; cfu = 0; cfb = 0; cfnr = 0; busy = 0; fault = None }

-- the number of the line behind a line, as far as 64 bits go
abbrev pub onward : ℕ → ℕ
onward line = when ltb line 18446744073709551615 then line + 1 else line

-- the first line has one number, a panel's line five: so many are before the last
abbrev pub numbers_before : ℕ → ℕ
numbers_before line = when leb line 1 then 0 else 4

-- the line that is being read is no part of a plan; lines are counted from 1, and a line 0 tells no fault
abbrev pub at_fault : Reading → Reading
at_fault r = record {
  line = r.line;
  numbers = r.numbers;
  begun = r.begun;
  value = r.value;
  start = r.start;
  cfu = r.cfu;
  cfb = r.cfb;
  cfnr = r.cfnr;
  busy = r.busy;
  fault = when eqb r.line 0 then None else Some r.line;
}

-- "a number over 65,535" is a fault
abbrev pub greatest : ℕ
greatest = 65535

-- a digit, by its value
abbrev pub digit_read : Reading → ℕ → Reading
digit_read r digit =
    when leb (r.value * 10 + digit) greatest then record {
      line = r.line;
      numbers = r.numbers;
      begun = true;
      value = r.value * 10 + digit;
      start = r.start;
      cfu = r.cfu;
      cfb = r.cfb;
      cfnr = r.cfnr;
      busy = r.busy;
      fault = r.fault;
    } else
    at_fault r

-- behind a number that is whole; those before it move up a place
abbrev pub number_read : Reading → Reading
number_read r = record {
  line = r.line;
  numbers = r.numbers + 1;
  begun = false;
  value = 0;
  start = r.start;
  cfu = r.cfb;
  cfb = r.cfnr;
  cfnr = r.busy;
  busy = r.value;
  fault = r.fault;
}

-- a space ends a number that is not the last of its line
abbrev pub space_read : Reading → Reading
space_read r = when r.begun && ltb r.numbers (numbers_before r.line) then number_read r else at_fault r

-- the first line's number is the start panel
abbrev pub start_after : Reading → ℕ
start_after r = when leb r.line 1 then r.value else r.start

-- the next line begins
abbrev pub line_read : Reading → Reading
line_read r = record {
  line = onward r.line;
  numbers = 0;
  begun = false;
  value = 0;
  start = start_after r;
  cfu = r.cfu;
  cfb = r.cfb;
  cfnr = r.cfnr;
  busy = r.busy;
  fault = r.fault;
}

-- the line has all its numbers
abbrev pub whole_line : Reading → Bool
whole_line r = r.begun && eqb r.numbers (numbers_before r.line)

-- a newline ends a line that has all its numbers
abbrev pub newline_read : Reading → Reading
newline_read r = when whole_line r then line_read r else at_fault r

abbrev pub sound : Reading → Bool
sound r = is_none r.fault

abbrev pub is_digit : ℕ → Bool
is_digit byte = leb 48 byte && leb byte 57

abbrev pub is_newline : ℕ → Bool
is_newline byte = eqb byte 10

-- one byte; behind a fault nothing is read
unfoldable pub byte_read : Reading → ℕ → Reading
byte_read r byte =
    when not (sound r) then r else
    when is_digit byte then digit_read r (byte - 48) else
    when eqb byte 32 then space_read r else
    when is_newline byte then newline_read r else
    at_fault r

-- a mark that does not fit a byte is kept as 255: every mark above 1 is refused alike
abbrev pub mark_byte : ℕ → ℕ
mark_byte mark = min mark 255

-- four numbers for a panel, the marks as the low and the high byte of the fourth
abbrev pub packed : ℕ → ℕ → ℕ → ℕ → ℕ → List ℕ
packed cfu cfb cfnr busy unattended = cfu ∷ cfb ∷ cfnr ∷ (mark_byte busy + mark_byte unattended * 256) ∷ []

-- the panel of the second line is the first: where its numbers begin
abbrev pub place_of : ℕ → ℕ
place_of line = (line - 2) * 4

-- a newline that ends a panel's line
abbrev pub ends_panel : Reading → ℕ → Bool
ends_panel r byte = sound r && is_newline byte && whole_line r && leb 2 r.line

-- there is room for the panel of this line
abbrev pub has_room : ℕ → List ℕ → Bool
has_room line plan = leb line (length plan / 4 + 1)

-- the plan with the panel whose line was read
abbrev pub panel_stored : Reading → List ℕ → List ℕ
panel_stored r plan = wrote (packed r.cfu r.cfb r.cfnr r.busy r.value) (place_of r.line) plan

-- the plan behind a byte
unfoldable pub stored : Reading → ℕ → List ℕ → List ℕ
stored r byte plan = when ends_panel r byte && has_room r.line plan then panel_stored r plan else plan

-- a piece of the text, byte after byte
unfoldable pub text_read : Reading → List ℕ → Reading
text_read r [] = r
text_read r (byte ∷ rest) = text_read (byte_read r byte) rest

-- the plan behind it
unfoldable pub plan_after : Reading → List ℕ → List ℕ → List ℕ
plan_after r [] plan = plan
plan_after r (byte ∷ rest) plan = plan_after (byte_read r byte) rest (stored r byte plan)

-- at the text's end a line that is begun ends as by a newline; so does the first, since an empty text is no plan
abbrev pub closing : Reading → List ℕ
closing r = when r.begun || ltb 0 r.numbers || leb r.line 1 then 10 ∷ [] else []

-- the whole text, to its end
abbrev pub whole_read : List ℕ → Reading
whole_read text = let r = text_read beginning text in text_read r (closing r)

abbrev pub whole_plan : List ℕ → List ℕ → List ℕ
whole_plan text plan = let r = text_read beginning text in plan_after r (closing r) (plan_after beginning text plan)

-- how many panels were read
abbrev pub panels_read : Reading → ℕ
panels_read r = r.line - 2

-- how many numbers of a plan with so much room are theirs
abbrev pub numbers_lent : Reading → ℕ → ℕ
numbers_lent r room = min (panels_read r) (room / 4) * 4
