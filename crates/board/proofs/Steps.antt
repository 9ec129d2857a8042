-- A turn of a run on its board, by what becomes of the event; and the test of the table, made once. Assumes nothing.
use Prim.Native.Nat.{ℕ, ◌+◌, ◌-◌, ◌≤◌, ◌<◌, min}
use mathlib.Core.Bool.{true, false, not}
use mathlib.Core.List.{List}
use mathlib.Core.Path.{◌≡◌, refl, sym, ap, ◌∙◌}
use native.Mathlib.Omega.{arith}
use borrow.Author.Tests.{not-true}
use lib.Count.{count_trailing_zeros}
use lib.Dec.{ltb}
use lib.ListN.{get_or, set}
use Rattle.ground.specs.Lists.{first}
use Rattle.ground.proofs.Bools.{by_cases}
use Rattle.ground.proofs.Walks.{both}
use Rattle.event.specs.declared.Event.{Event}
use Rattle.call.specs.declared.Call.{Call}
use Rattle.call.specs.declared.Effect.{Effect}
use Rattle.call.specs.Record.{free_call, is_free}
use Rattle.call.proofs.Read.{unread, read_any}
use Rattle.remote.specs.declared.Moved.{Moved}
use Rattle.station.specs.declared.Station.{Station}
use Rattle.station.specs.Table.{sound}
use Rattle.station.specs.Table as table
use Rattle.station.specs.Refusals.{refusal}
use Rattle.station.specs.Step.{answer_of, far_answer, by_number, step, step_on_sound}
use Rattle.bits.specs.Mask.{weigh}
use Rattle.expiry.specs.Expiry.{under, never, quiet_until}
use Rattle.draw.specs.Column.{identifier_in, held_by}
use Rattle.sight.specs.declared.Seen.{Seen}
use Rattle.sight.specs.Sight.{place_of}
use Rattle.outcome.specs.Outcome.{station_on, station_far}
use Rattle.deed.specs.Deed.{acted_of, Doable}
use Rattle.turn.specs.Turn.{Turn, Refused, Far, Done, turn_of, moved_of, outcome_of}
use Rattle.turn.proofs.Turns.{refused_number, done_there, done_doable}
use Rattle.turn.proofs.Laws.{turn_steps}
use Rattle.board.specs.declared.Board.{Board}
use Rattle.board.specs.Board.{table_of, sound_board, within}
use Rattle.board.proofs.OneEvent.{put_back, step_board, step_sound_board}
use Rattle.board.proofs.Boards.{refused_board, far_board, done_board, back_refused, back_far, back_done, within_near}
use Rattle.board.proofs.Found.{table_at}
use Rattle.board.proofs.Sees.{sees_notes}
use Rattle.board.proofs.Beside.{notes, board_now, Beside, beside_next, may_flip}

-- what a run sees of its table when it has read the record at `i`, the turn that is decided on it, and what it then stores and keeps beside the table
module _ (b : Board) (s : Station) (calls : List Call) (free soon : ℕ) (dues held : List ℕ) (e : Event) (short : b.len ≤ 64) (w : Beside b.len calls (notes free soon dues held)) (late : e.time ≤ never)
    (place i identifier : ℕ) (at : place ≡ place_of e (count_trailing_zeros 64 free) (first (under e.time) dues)) (read : i ≡ within place b.len) (drawn : identifier ≡ identifier_in e held s.remote.pending s.next)
    (t : Turn) (r : t ≡ turn_of s e (record { len = b.len; place = place; identifier = identifier; call = get_or calls i unread })) where
  abbrev board : Board
  board = board_now b s calls

  abbrev v : Seen
  v = record { len = b.len; place = place; identifier = identifier; call = get_or calls i unread }

  near : place < b.len → i ≡ place
  near l = read ∙ within_near place b.len l

  there : place < b.len → get_or calls i unread ≡ get_or calls place free_call
  there l = ap (λ j. get_or calls j unread) (near l) ∙ read_any calls place unread free_call (omega (arith, l, w.long, short))

  steps : put_back board (outcome_of s (table_of board) e v t) ≡ step_sound_board board e
  steps =
      ap (put_back board)
      (ap (outcome_of s (table_of board) e v) r
      ∙ turn_steps s (table_of board) e v (sees_notes b.len calls short w.long (notes free soon dues held) w.kept e late s v refl at there drawn))

  pub turn_refused : (code : ℕ) → t ≡ Refused code → (code ≡ 0 → ⊥) × (refused_board board code ≡ step_sound_board board e)
  turn_refused code q = (refused_number s e v code (sym r ∙ q), sym (back_refused board code) ∙ ap (λ x. put_back board (outcome_of s (table_of board) e v x)) (sym q) ∙ steps)

  pub turn_far : (m : Moved) → t ≡ Far → m ≡ moved_of s e v → far_board board (far_answer m) (station_far s e identifier m.remote) ≡ step_sound_board board e
  turn_far m q a =
      sym (back_far board (far_answer m) (station_far s e identifier m.remote))
      ∙ ap (λ y. put_back board (record { answer = far_answer y; station = station_far s e identifier y.remote; calls = table_of board })) a
      ∙ ap (λ x. put_back board (outcome_of s (table_of board) e v x)) (sym q) ∙ steps

  placed : t ≡ Done → place < b.len
  placed q = done_there s e v (sym r ∙ q)

  -- what was read is the record of the table
  pub turn_read : t ≡ Done → (place < b.len) × (get_or calls i unread ≡ table.at (table_of board) place)
  turn_read q = (placed q, there (placed q) ∙ sym (table_at b.len calls short w.long place (placed q)))

  pub turn_doable : t ≡ Done → s.limit < 256 → Doable e v
  turn_doable q l = done_doable s e v (sym r ∙ q) l

  pub turn_done : (x : Effect) → t ≡ Done → x ≡ acted_of e v → done_board board (station_on s e identifier) i x ≡ step_sound_board board e
  turn_done x q a =
      rw (near (placed q))
      (sym (back_done board (station_on s e identifier) place x (placed q))
      ∙ ap (λ y. put_back board (record { answer = answer_of place y; station = station_on s e identifier; calls = set (table_of board) place y.call })) a
      ∙ ap (λ y. put_back board (outcome_of s (table_of board) e v y)) (sym q) ∙ steps)

  pub turn_flips : t ≡ Done → (x : Call)
      → (i < 64) × (weigh (is_free (get_or calls i unread)) i ≤ free) × (free + weigh (is_free x) i < 18446744073709551616 + weigh (is_free (get_or calls i unread)) i)
  turn_flips q x = rw (there (placed q), near (placed q)) (may_flip b.len calls free soon dues held short w place x (placed q))

  pub turn_beside : t ≡ Done → (free' soon' due id : ℕ) (x : Call) → free' ≡ free + weigh (is_free x) i - weigh (is_free (get_or calls i unread)) i
      → due ≡ quiet_until x → soon' ≡ min soon due → id ≡ held_by x → Beside b.len (set calls i x) (notes free' soon' (set dues i due) (set held i id))
  turn_beside q free' soon' due id x f = rw (near (placed q)) (beside_next b.len calls free soon dues held short w place free' soon' due id x (placed q) (rw (there (placed q), near (placed q)) at f))

-- a step on a board that was tested
pub tested_step : (b : Board) (e : Event) → sound_board b ≡ true → step_sound_board b e ≡ step_board b e
unfolding step step_on_sound refusal
tested_step b e h =
    let w = both (not (ltb 64 b.len)) (sound b.station (table_of b)) h in
    rw (not-true (ltb 64 b.len) w.0, w.1)

pub unsound_step : (b : Board) (e : Event) → sound_board b ≡ false → refused_board b 1 ≡ step_board b e
unfolding step refusal by_number
unsound_step b e h =
    by_cases (ltb 64 b.len) (λ l. rw l) (λ l.
    let z : sound b.station (table_of b) ≡ false = rw l at h in
    rw (l, z) (sym (back_refused b 1)))
