-- What reading a text promises. The theorems are in proofs/ReadBack, proofs/Faults, proofs/LastLine and proofs/TooLong.
use Rattle.std.specs.Prelude.{ℕ, suc, ◌+◌, ◌*◌, ◌^◌, ◌≤◌, ◌<◌, ◌≡◌, Bool, ◌&&◌, List, [], ◌∷◌, ◌++◌, Some, None, map, T, leb, length, take}
use Rattle.ground.specs.Choice.{when◌then◌else◌}
use Rattle.ground.specs.Lists.{all}
use Rattle.digits.specs.Digits.{decimal, space, newline}
use Rattle.rehearsal.specs.declared.Panel.{Panel}
use Rattle.rehearsal.specs.Plan.{panels_of}
use Rattle.rehearsal.specs.Rehearsal.{refusal, rehearsal_of}
use Rattle.plantext.specs.declared.Reading.{Reading}
use Rattle.plantext.specs.Text.{beginning, is_newline, mark_byte, packed, text_read, plan_after, closing, whole_read, whole_plan, panels_read, numbers_lent}

-- a panel as it is written down
pub record Row : Type 0 where
  pub cfu : ℕ
  pub cfb : ℕ
  pub cfnr : ℕ
  pub busy : ℕ
  pub unattended : ℕ

-- "`cfu cfb cfnr busy unattended`, numbers with one space between"
abbrev pub row_text : Row → List ℕ
row_text p =
    decimal p.cfu ++ space ++ decimal p.cfb ++ space ++ decimal p.cfnr ++ space ++ decimal p.busy ++ space
    ++ decimal p.unattended ++ newline

unfoldable pub rows_text : List Row → List ℕ
rows_text [] = []
rows_text (p ∷ rest) = row_text p ++ rows_text rest

-- "the start panel's number in the first line, then a line for each panel"
abbrev pub plan_text : ℕ → List Row → List ℕ
plan_text start rows = decimal start ++ newline ++ rows_text rows

-- four numbers for each panel
unfoldable pub numbers_of : List Row → List ℕ
numbers_of [] = []
numbers_of (p ∷ rest) = packed p.cfu p.cfb p.cfnr p.busy p.unattended ++ numbers_of rest

-- no number over 65,535
abbrev pub row_fits : Row → Bool
row_fits p = leb p.cfu 65535 && leb p.cfb 65535 && leb p.cfnr 65535 && leb p.busy 65535 && leb p.unattended 65535

-- Every plan that is written in this form, and for whose panels the buffer has room, reads back as itself.
abbrev pub ReadsBack : Type 0
ReadsBack =
    (start : ℕ) (rows : List Row) (buffer : List ℕ)
    → start ≤ 65535
    → T (all row_fits rows)
    → length rows * 4 ≤ length buffer
    → length buffer < 2 ^ 64
    → ((whole_read (plan_text start rows)).fault ≡ None)
    × ((whole_read (plan_text start rows)).start ≡ start)
    × (panels_read (whole_read (plan_text start rows)) ≡ length rows)
    × (take (numbers_lent (whole_read (plan_text start rows)) (length buffer)) (whole_plan (plan_text start rows) buffer) ≡ numbers_of rows)

-- A text that is cut anywhere and read piece after piece is read as a whole.
abbrev pub PiecesAsOne : Type 0
PiecesAsOne =
    (r : Reading) (one other plan : List ℕ)
    → (text_read r (one ++ other) ≡ text_read (text_read r one) other)
    × (plan_after r (one ++ other) plan ≡ plan_after (text_read r one) other (plan_after r one plan))

-- Once a line is no part of a plan, it is that line that is told, whatever follows.
abbrev pub FaultStays : Type 0
FaultStays = (r : Reading) (rest : List ℕ) → (r.fault ≡ None → ⊥) → text_read r rest ≡ r

-- the lines that are whole
unfoldable pub newlines_in : List ℕ → ℕ
newlines_in [] = 0
newlines_in (byte ∷ rest) = when is_newline byte then suc (newlines_in rest) else newlines_in rest

-- The line that is told is the one of the first byte that does not fit.
abbrev pub FaultNamesLine : Type 0
FaultNamesLine =
    (text : List ℕ) (byte : ℕ)
    → length text + 1 < 2 ^ 64
    → (text_read beginning text).fault ≡ None
    → ((text_read beginning (text ++ (byte ∷ []))).fault ≡ None → ⊥)
    → (text_read beginning (text ++ (byte ∷ []))).fault ≡ Some (newlines_in text + 1)

-- The last newline may be missing.
abbrev pub LastNewline : Type 0
LastNewline =
    (text plan : List ℕ)
    → closing (text_read beginning text) ≡ newline
    → (whole_read text ≡ whole_read (text ++ newline)) × (whole_plan text plan ≡ whole_plan (text ++ newline) plan)

-- a panel as it is rehearsed: marks that do not fit a byte are 255
abbrev pub panel_read : Row → Panel
panel_read p = record { cfu = p.cfu; cfb = p.cfb; cfnr = p.cfnr; busy = mark_byte p.busy; unattended = mark_byte p.unattended }

-- The numbers that are lent are the panels that were written down.
abbrev pub PanelsBack : Type 0
PanelsBack = (rows : List Row) → panels_of (numbers_of rows) ≡ map panel_read rows

-- More than 256 panels are refused, also where some found no room: it is enough that there is room for 257.
abbrev pub TooLongRefused : Type 0
TooLongRefused =
    (r : Reading) (plan : List ℕ) (start : ℕ)
    → 1028 ≤ length plan
    → 256 < panels_read r
    → rehearsal_of (take (numbers_lent r (length plan)) plan) start ≡ refusal
