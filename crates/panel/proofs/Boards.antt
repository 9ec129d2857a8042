-- Events on a sound board, as events on the table that it holds. Assumes nothing.
use Prim.Native.Nat.{ℕ, suc, ◌≤◌}
use mathlib.Core.Bool.{true, false, not}
use mathlib.Core.List.{List, [], ◌∷◌, ◌++◌, flatten}
use mathlib.Core.Path.{◌≡◌, refl, ◌∙◌}
use native.Mathlib.Omega.{arith}
use borrow.Author.Tests.{not-true, le-ltb, ltb-false}
use lib.Dec.{ltb}
use lib.ListN.{length, drop, length-take, length-drop, length-append, take-append-drop}
use lib.Seq.{take_at}
use Rattle.ground.proofs.Walks.{both}
use Rattle.event.specs.declared.Event.{Event}
use Rattle.call.specs.declared.Call.{Call}
use Rattle.station.specs.declared.Station.{Station}
use Rattle.station.specs.Table.{sound}
use Rattle.station.specs.Step.{step, run_on, Ran, run_step}
use Rattle.station.proofs.Places.{length_stays}
use Rattle.board.specs.declared.Board.{Board}
use Rattle.board.specs.Board.{table_of, board_with, sound_board}
use Rattle.board.proofs.OneEvent.{put_back, step_board}
use Rattle.board.proofs.Tables.{taken_again}
use Rattle.printout.specs.Line.{line, printed}
use Rattle.printout.specs.Panel.{lines_text}
use Rattle.panel.specs.Play.{board_after}

module _ (b : Board) (h : sound_board b ≡ true) where
  not_over : ltb 64 b.len ≡ false
  not_over = not-true (ltb 64 b.len) (both (not (ltb 64 b.len)) (sound b.station (table_of b)) h).0

  on_table : (e : Event) → step_board b e ≡ put_back b (step b.station (table_of b) e)
  on_table e = rw not_over

  module _ (e : Event) (long : length b.calls ≡ 64) where
    calls_long : length (step b.station (table_of b) e).calls ≡ b.len
    calls_long =
        let m = ltb-false 64 b.len not_over in
        length_stays b.station (table_of b) e ∙ omega (arith, length-take b.len b.calls)

    pub stays_long : length (step_board b e).board.calls ≡ 64
    stays_long =
        let m = ltb-false 64 b.len not_over in
        rw (on_table e) (omega (arith, length-append (step b.station (table_of b) e).calls (drop b.len b.calls), calls_long, length-drop b.len b.calls))

    -- the line of the first event, then those of the others on the board that it leaves
    pub lines_on_lem : (position : ℕ) (rest : List Event)
        → lines_text position b.station (table_of b) (e ∷ rest)
        ≡ line position (step_board b e).answer ++ lines_text (suc position) (step_board b e).board.station (table_of (step_board b e).board) rest
    unfolding printed flatten
    lines_on_lem position rest = rw (on_table e, take_at (step b.station (table_of b) e).calls (drop b.len b.calls) b.len calls_long)

-- the board that a list of events leaves, event by event
pub after_none : (b : Board) → board_after b [] ≡ b
unfolding board_after run_on
after_none b = rw (take-append-drop b.len b.calls)

-- what a run leaves does not go by the counts that it starts from
counts_apart : (b : Board) (done refused done' refused' : ℕ) (s : Station) (calls : List Call) (es : List Event)
    → let r = run_on (record { done = done; refused = refused; station = s; calls = calls }) es in
    let q = run_on (record { done = done'; refused = refused'; station = s; calls = calls }) es in
    board_with b r.station r.calls ≡ board_with b q.station q.calls
unfolding run_on
counts_apart b done refused done' refused' s calls [] = refl
counts_apart b done refused done' refused' s calls (e ∷ es) =
    let r : Ran = run_step (record { done = done; refused = refused; station = s; calls = calls }) e in
    let q : Ran = run_step (record { done = done'; refused = refused'; station = s; calls = calls }) e in
    counts_apart b r.done r.refused q.done q.refused (step s calls e).station (step s calls e).calls es

pub after_more : (b : Board) (e : Event) (es : List Event) → b.len ≤ 64 → board_after b (e ∷ es) ≡ board_after (step_board b e).board es
unfolding board_after run_on
after_more b e es short =
    let o = step b.station (table_of b) e in
    let w = taken_again b.len b.calls o.calls (length_stays b.station (table_of b) e) in
    rw (le-ltb 64 b.len short, w.0, w.1) (counts_apart b _ _ 0 0 o.station o.calls es)
