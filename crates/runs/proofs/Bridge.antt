-- The run that the loop makes, board by board, is the run of the definition. Assumes nothing.
use Prim.Native.Nat.{ℕ, ◌+◌, ◌/◌, ◌%◌, ◌≤◌}
use mathlib.Core.Bool.{Bool, true, false}
use mathlib.Core.List.{List, [], ◌∷◌}
use mathlib.Core.Path.{◌≡◌, refl, sym, ap, ◌∙◌}
use borrow.Author.Tests.{le-ltb, ltb-false}
use lib.Dec.{eqb, ltb}
use lib.ListN.{length, take-append-drop}
use Rattle.ground.specs.Choice.{when◌then◌else◌}
use Rattle.ground.proofs.Bools.{by_cases}
use Rattle.event.specs.declared.Event.{Event}
use Rattle.wire.specs.Record.{events_from}
use Rattle.station.specs.Step as list
use Rattle.station.specs.Step.{Outcome, step}
use Rattle.station.proofs.Places.{length_stays}
use Rattle.board.specs.declared.Board.{Board}
use Rattle.board.specs.Board.{table_of, board_with, sound_board}
use Rattle.board.proofs.OneEvent.{put_back, step_board, step_sound_board}
use Rattle.board.proofs.Boards.{tested_short}
use Rattle.board.proofs.Tables.{one_step}
use Rattle.runs.specs.Run.{ran, on_board, run_board}
use Rattle.runs.proofs.Folds.{counted, run_by, run_first, tested_once, never_sound}

module _ (b : Board) (short : b.len ≤ 64) (cut : ℕ) where
  one_count : (r : list.Ran) (e : Event) → length r.calls ≡ length (table_of b)
      → counted (on_board b cut r) (step_board (board_with b r.station r.calls) e) ≡ on_board b cut (list.run_step r e)
  one_count r e q = ap (counted (on_board b cut r)) (one_step b r.station r.calls e short q) ∙ same (step r.station r.calls e)
    where
      same : (o : Outcome) → counted (on_board b cut r) (put_back b o) ≡ on_board b cut (list.counted r o)
      same o = go (eqb o.answer.code 0)
        where
          go : (t : Bool) → (when t then ran (r.done + 1) r.refused cut (board_with b o.station o.calls) else ran r.done (r.refused + 1) cut (board_with b o.station o.calls))
              ≡ ran (when t then r.done + 1 else r.done) (when t then r.refused else r.refused + 1) cut (board_with b o.station o.calls)
          go true = refl
          go false = refl

  all_events : (r : list.Ran) (events : List Event) → length r.calls ≡ length (table_of b) → run_by step_board (on_board b cut r) events ≡ on_board b cut (list.run_on r events)
  unfolding run_by list.run_on
  all_events r [] q = refl
  all_events r (e ∷ rest) q =
      ap (λ x. run_by step_board x rest) (one_count r e q)
      ∙ all_events (list.run_step r e) rest (length_stays r.station r.calls e ∙ q)

runs_the_list : (b : Board) (bytes : List ℕ) → b.len ≤ 64 → run_first step_board b bytes (length bytes / 24) ≡ run_board b bytes
runs_the_list b bytes short =
    rw (le-ltb 64 b.len short)
    (ap (λ c. run_by step_board (ran 0 0 (length bytes % 24) (record { station = b.station; len = b.len; calls = c })) (events_from bytes 0 (length bytes / 24)))
    (sym (take-append-drop b.len b.calls))
    ∙ all_events b short (length bytes % 24) (record { done = 0; refused = 0; station = b.station; calls = table_of b }) (events_from bytes 0 (length bytes / 24)) refl)

-- the table tested once
pub runs_tested : (b : Board) (bytes : List ℕ) → sound_board b ≡ true → run_first step_sound_board b bytes (length bytes / 24) ≡ run_board b bytes
runs_tested b bytes h = tested_once b bytes (length bytes / 24) h ∙ runs_the_list b bytes (tested_short b h)

-- and found not sound: each event is refused and the board stays
pub runs_refused : (b : Board) (bytes : List ℕ) → sound_board b ≡ false → ran 0 (length bytes / 24) (length bytes % 24) b ≡ run_board b bytes
runs_refused b bytes h =
    by_cases (ltb 64 b.len) (λ l. rw l) (λ l.
    sym (never_sound b bytes (length bytes / 24) h) ∙ runs_the_list b bytes (ltb-false 64 b.len l))
