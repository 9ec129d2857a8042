-- The board that a panel starts with is sound, and a step leaves a sound board sound. Assumes nothing.
use mathlib.Core.Bool.{true, not}
use mathlib.Core.List.{◌++◌}
use mathlib.Core.Path.{◌≡◌}
use borrow.Author.Tests.{not-true}
use lib.Dec.{ltb, lit≤}
use lib.ListN.{take, drop, replicate}
use Rattle.ground.proofs.Bools.{is_true, from_true}
use Rattle.ground.proofs.Walks.{both}
use Rattle.event.specs.declared.Event.{Event}
use Rattle.call.specs.Record.{free_call}
use Rattle.station.specs.Station.{fresh_station}
use Rattle.station.specs.Table.{sound}
use Rattle.station.specs.Step.{step}
use Rattle.station.proofs.Kept.{fresh_sound, step_sound}
use Rattle.station.proofs.Places.{length_stays}
use Rattle.board.specs.declared.Board.{Board}
use Rattle.board.specs.Board.{start_board, table_of, sound_board}
use Rattle.board.proofs.OneEvent.{step_board}
use Rattle.board.proofs.Tables.{taken_again}

pub start_sound : sound_board start_board ≡ true
start_sound = is_true (sound (fresh_station 15 1 1) (replicate 64 free_call)) (fresh_sound 15 1 1 64 tt (lit≤ tt) (lit≤ tt))

pub board_kept : (b : Board) (e : Event) → sound_board b ≡ true → sound_board (step_board b e).board ≡ true
board_kept b e h =
    let w = both (not (ltb 64 b.len)) (sound b.station (table_of b)) h in
    let l = not-true (ltb 64 b.len) w.0 in
    let o = step b.station (table_of b) e in
    let s : sound o.station o.calls ≡ true = is_true _ (step_sound b.station (table_of b) e (from_true _ w.1)) in
    let t : take b.len (o.calls ++ drop b.len b.calls) ≡ o.calls = (taken_again b.len b.calls o.calls (length_stays b.station (table_of b) e)).0 in
    rw (l, t, l) s
