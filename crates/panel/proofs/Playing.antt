-- The loop of `play`: what stands in the buffer and what is left to play make the whole. Assumes nothing.
use Prim.Native.Nat.{ℕ, suc, ◌+◌, ◌-◌, ◌*◌, ◌≤◌, ◌<◌}
use mathlib.Core.Bool.{true}
use mathlib.Core.List.{List, [], ◌∷◌, ◌++◌, append_assoc, append-nil, flatten}
use mathlib.Core.Path.{◌≡◌, sym, ◌∙◌}
use native.Mathlib.Omega.{arith}
use lib.ListN.{length}
use Rattle.std.specs.Prelude.{Result}
use Rattle.event.specs.declared.Event.{Event}
use Rattle.event.specs.declared.Refusal.{Refusal}
use Rattle.wire.specs.Record.{event_at, events_from}
use Rattle.station.specs.declared.Answer.{Answer}
use Rattle.board.specs.declared.Board.{Board}
use Rattle.board.specs.Board.{table_of, sound_board}
use Rattle.board.proofs.OneEvent.{Stepped, step_board, step_sound_board}
use Rattle.board.proofs.Boards.{tested_short}
use Rattle.board.proofs.Steps.{tested_step}
use Rattle.driver.specs.Driver.{told, Drives}
use Rattle.board.proofs.Kept.{board_kept}
use Rattle.printout.specs.Line.{line, printed}
use Rattle.printout.specs.Panel.{lines_text}
use Rattle.digits.specs.Written.{Written}
use Rattle.digits.proofs.Texts.{and_then}
use Rattle.panel.specs.Play.{board_after}
use Rattle.panel.proofs.Boards.{stays_long, lines_on_lem, after_none, after_more}

-- after i of n events
pub record Playing (b : Board) (position : ℕ) (bytes old : List ℕ) (n : ℕ) (board : Board) (out : List ℕ) (at i : ℕ) : Type 0 where
  pub upto : i ≤ n
  pub long : length board.calls ≡ 64
  pub sound : sound_board board ≡ true
  pub room : at ≤ i * 96
  pub same : length out ≡ length old
  pub done : List ℕ
  pub text : Written done 0 old out at
  pub lines : done ++ lines_text (position + i) board.station (table_of board) (events_from bytes (i * 24) (n - i))
      ≡ lines_text position b.station (table_of b) (events_from bytes 0 n)
  pub left : board_after board (events_from bytes (i * 24) (n - i)) ≡ board_after b (events_from bytes 0 n)

module _ (b : Board) (position : ℕ) (bytes old : List ℕ) (n : ℕ) where
  events_next : (i : ℕ) → i < n → events_from bytes (i * 24) (n - i) ≡ event_at bytes (i * 24) ∷ events_from bytes ((i + 1) * 24) (n - (i + 1))
  unfolding events_from
  events_next i h =
      let e : n - i ≡ suc (n - (i + 1)) = omega arith in
      let p : (i + 1) * 24 ≡ i * 24 + 24 = omega arith in
      rw (e, p)

  module _ (board : Board) (out : List ℕ) (at i : ℕ) (w : Playing b position bytes old n board out at i) (h : i < n) where
    pub playing_next : (e : Event) (x : Stepped) (out' : List ℕ) (at' : ℕ) → e ≡ event_at bytes (i * 24) → x ≡ step_board board e
        → Written (line (position + i) x.answer) at out out' at' → at' ≤ at + 67 → n * 96 ≤ length old → length out' ≡ length out
        → Playing b position bytes old n x.board out' at' (i + 1)
    playing_next e x out' at' p q t m r s = record {
      upto = omega arith;
      long = rw q (stays_long board w.sound e w.long);
      sound = rw q (board_kept board e w.sound);
      room = omega (arith, w.room);
      same = s ∙ w.same;
      done = w.done ++ line (position + i) x.answer;
      text = and_then w.text t (omega (arith, w.room, w.upto));
      lines =
          let k : position + (i + 1) ≡ suc (position + i) = omega arith in
          let rest = events_from bytes ((i + 1) * 24) (n - (i + 1)) in
          rw (q, p, append_assoc, k, ← lines_on_lem board w.sound (event_at bytes (i * 24)) w.long (position + i) rest, ← events_next i h) w.lines;
      left =
          let rest = events_from bytes ((i + 1) * 24) (n - (i + 1)) in
          rw (q, p) (sym (after_more board (event_at bytes (i * 24)) rest (tested_short board w.sound)) ∙ rw (events_next i h) at w.left);
    }

    -- the line of what the driver tells
    pub playing_told : (e : Event) (r : Result Answer Refusal) (after : Board) (out' : List ℕ) (at' : ℕ) → e ≡ event_at bytes (i * 24) → Drives board e r after
        → Written (line (position + i) (told r)) at out out' at' → at' ≤ at + 67 → n * 96 ≤ length old → length out' ≡ length out
        → Playing b position bytes old n after out' at' (i + 1)
    playing_told e r after out' at' p x t m l s =
        rw x.board (playing_next e (step_sound_board board e) out' at' p (tested_step board e w.sound) (rw x.answer at t) m l s)

  -- at the end nothing is left
  module _ (board : Board) (out : List ℕ) (at i : ℕ) (w : Playing b position bytes old n board out at i) (h : n ≤ i) where
    none_left : events_from bytes (i * 24) (n - i) ≡ []
    unfolding events_from
    none_left = let e : n - i ≡ 0 = omega arith in rw e

    pub played_text : Written (lines_text position b.station (table_of b) (events_from bytes 0 n)) 0 old out at
    unfolding printed flatten
    played_text = rw (← w.lines, none_left, append-nil) w.text

    pub played_board : board ≡ board_after b (events_from bytes 0 n)
    played_board = sym (after_none board) ∙ rw none_left at w.left
