-- An input that comes in pieces prints as if it came whole. Assumes nothing.
use Prim.Native.Nat.{ℕ, suc, ◌+◌, ◌*◌, ◌/◌, ◌%◌, ◌≤◌}
use mathlib.Core.Bool.{true}
use mathlib.Core.List.{List, [], ◌∷◌, ◌++◌, append_assoc, flatten}
use mathlib.Core.Path.{◌≡◌, refl, sym, ap, ◌∙◌}
use native.Mathlib.Nat.{add-zero, zero-add}
use native.Mathlib.Omega.{arith}
use lib.ListN.{length, take, drop, length-drop}
use Rattle.event.specs.declared.Event.{Event}
use Rattle.wire.specs.Record.{events_from}
use Rattle.board.specs.declared.Board.{Board}
use Rattle.board.specs.Board.{table_of, sound_board}
use Rattle.board.proofs.OneEvent.{step_board}
use Rattle.board.proofs.Boards.{tested_short}
use Rattle.board.proofs.Kept.{start_sound, board_kept}
use Rattle.printout.specs.Line.{line, printed}
use Rattle.printout.specs.Panel.{lines_text, whole_events, cut_text, panel_text}
use Rattle.panel.specs.Play.{board_after}
use Rattle.pieces.specs.Pieces.{unplayed, InTurns, over, onward, TurnsPrint}
use Rattle.panel.proofs.Boards.{stays_long, lines_on_lem, after_none, after_more}
use Rattle.panel.proofs.Records.{events_taken, events_behind, events_split, events_long}

-- what a list of events leaves is sound, and its array as long
after_sound : (b : Board) (es : List Event) → sound_board b ≡ true → sound_board (board_after b es) ≡ true
after_sound b [] h = rw (after_none b) h
after_sound b (e ∷ es) h = rw (after_more b e es (tested_short b h)) (after_sound (step_board b e).board es (board_kept b e h))

after_long : (b : Board) (es : List Event) → sound_board b ≡ true → length b.calls ≡ 64 → length (board_after b es).calls ≡ 64
after_long b [] h l = rw (after_none b) l
after_long b (e ∷ es) h l = rw (after_more b e es (tested_short b h)) (after_long (step_board b e).board es (board_kept b e h) (stays_long b h e l))

-- the lines of two lists, one behind the other
lines_append : (position : ℕ) (b : Board) (es fs : List Event) → sound_board b ≡ true → length b.calls ≡ 64
    → lines_text position b.station (table_of b) (es ++ fs)
    ≡ lines_text position b.station (table_of b) es ++ lines_text (position + length es) (board_after b es).station (table_of (board_after b es)) fs
unfolding printed flatten
lines_append position b [] fs h l = rw (after_none b, add-zero)
lines_append position b (e ∷ es) fs h l =
    let a = line position (step_board b e).answer in
    let next = (step_board b e).board in
    let more = lines_text (suc position + length es) (board_after next es).station (table_of (board_after next es)) fs in
    let k : position + suc (length es) ≡ suc position + length es = omega arith in
    rw (k, after_more b e es (tested_short b h))
    (lines_on_lem b h e l position (es ++ fs)
    ∙ ap (λ t. a ++ t) (lines_append (suc position) next es fs (board_kept b e h) (stays_long b h e l))
    ∙ sym (append_assoc a (lines_text (suc position) next.station (table_of next) es) more)
    ∙ ap (λ t. t ++ more) (sym (lines_on_lem b h e l position es)))

-- the whole records of an input: those that were played, then those of what is left
whole_split : (left : List ℕ) (seen n : ℕ) → seen ≤ length left → n * 24 ≤ seen
    → whole_events left ≡ events_from (take seen left) 0 n ++ whole_events (drop (n * 24) left)
whole_split left seen n s m =
    let k = length (drop (n * 24) left) / 24 in
    let c : length left / 24 ≡ n + k = omega (arith, length-drop (n * 24) left) in
    rw (events_taken left seen 0 n (omega arith), events_behind left (n * 24) 0 k, c, add-zero (n * 24)) (events_split left 0 n k ∙ rw (zero-add (n * 24)))

turns_print : {b : Board} {position : ℕ} {left text : List ℕ} → InTurns b position left text → sound_board b ≡ true → length b.calls ≡ 64
    → text ≡ lines_text position b.station (table_of b) (whole_events left) ++ cut_text (length left % 24)
unfolding events_from printed flatten
turns_print {left = left} (over s) h l =
    let z : length left / 24 ≡ 0 = omega arith in
    let m : length left % 24 ≡ length left = omega arith in
    rw (z, m)
turns_print {b} {position} {left} (onward {text = text} seen n s m w) h l =
    let es = events_from (take seen left) 0 n in
    let rest = unplayed n left in
    let c : length rest % 24 ≡ length left % 24 = omega (arith, length-drop (n * 24) left) in
    let t = rw c at (turns_print w (after_sound b es h) (after_long b es h l)) in
    let q = rw (events_long (take seen left) 0 n) at (lines_append position b es (whole_events rest) h l) in
    rw (whole_split left seen n s m, q, t) (sym (append_assoc (lines_text position b.station (table_of b) es) _ _))

pub turns_print_panel : TurnsPrint
unfolding panel_text
turns_print_panel input text w = turns_print w start_sound refl
