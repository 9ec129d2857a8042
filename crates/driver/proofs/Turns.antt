-- One event on a driver's board, by what becomes of it. Assumes nothing.
use Prim.Native.Nat.{ℕ, ◌≤◌, ◌<◌}
use mathlib.Core.Path.{◌≡◌, refl, sym, ap, ◌∙◌}
use native.Mathlib.Omega.{arith}
use borrow.Author.Tests.{ne_eqb}
use lib.Count.{count_trailing_zeros}
use lib.Dec.{eqb}
use lib.ListN.{length, get_or, set}
use Rattle.std.specs.Prelude.{Result, Ok, Err, is_ok}
use Rattle.ground.specs.Lists.{first}
use Rattle.event.specs.declared.Event.{Event}
use Rattle.event.specs.declared.Refusal.{Refusal}
use Rattle.event.specs.Refusals.{number_of}
use Rattle.call.specs.Record.{free_call}
use Rattle.call.proofs.Read.{unread, read_any}
use Rattle.station.specs.declared.Answer.{Answer}
use Rattle.station.specs.Step.{answer_of, far_answer}
use Rattle.expiry.specs.Expiry.{under, never}
use Rattle.draw.specs.Column.{identifier_in}
use Rattle.sight.specs.declared.Seen.{Seen}
use Rattle.sight.specs.Sight.{place_of}
use Rattle.outcome.specs.Outcome.{station_on, station_far}
use Rattle.deed.specs.Deed.{acted_of, Doable}
use Rattle.turn.specs.Turn.{Turn, Refused, Far, Done, turn_of, moved_of}
use Rattle.notes.specs.declared.Notes.{Notes}
use Rattle.board.specs.declared.Board.{Board}
use Rattle.board.specs.Board.{within}
use Rattle.board.proofs.OneEvent.{Stepped, step_sound_board}
use Rattle.board.proofs.Boards.{refused_board, far_board, done_board, within_near}
use Rattle.board.proofs.Found.{table_at}
use Rattle.board.proofs.Steps.{turn_refused, turn_far, turn_done, turn_doable, turn_read}
use Rattle.driver.specs.Kept.{Kept}
use Rattle.driver.specs.Driver.{told, Drives, Reads}
use Rattle.driver.proofs.Beside.{beside}

-- from the step
drives : (b : Board) (e : Event) (x : Stepped) → x ≡ step_sound_board b e → (r : Result Answer Refusal) (after : Board) → told r ≡ x.answer → is_ok r ≡ eqb x.answer.code 0
    → after ≡ x.board → Drives b e r after
drives b e x q r after a o p = record {
  answer = a ∙ ap (λ (y : Stepped). y.answer) q;
  done = o ∙ ap (λ (y : Stepped). eqb y.answer.code 0) q;
  board = p ∙ ap (λ (y : Stepped). y.board) q;
}

module _ (b : Board) (d : Notes) (long : length b.calls ≡ 64) (w : Kept b d) (e : Event) (late : e.time ≤ never)
    (place i identifier : ℕ) (at : place ≡ place_of e (count_trailing_zeros 64 d.free) (first (under e.time) d.dues)) (read : i ≡ within place b.len) (drawn : identifier ≡ identifier_in e d.held b.station.remote.pending b.station.next)
    (t : Turn) (r : t ≡ turn_of b.station e (record { len = b.len; place = place; identifier = identifier; call = get_or b.calls i unread })) where
  abbrev v : Seen
  v = record { len = b.len; place = place; identifier = identifier; call = get_or b.calls i unread }

  pub reads : t ≡ Done → Reads b v
  reads q = let k = turn_read b b.station b.calls d.free d.soon d.dues d.held e w.short (beside b d long w) late place i identifier at read drawn t r q in record { short = w.short; there = k.0; call = k.1 }

  pub doable : t ≡ Done → b.station.limit < 256 → Doable e v
  doable q l = turn_doable b b.station b.calls d.free d.soon d.dues d.held e w.short (beside b d long w) late place i identifier at read drawn t r q l

  pub refused : (code : Refusal) → t ≡ Refused (number_of code) → Drives b e (Err code) b
  refused code q =
      let k = turn_refused b b.station b.calls d.free d.soon d.dues d.held e w.short (beside b d long w) late place i identifier at read drawn t r (number_of code) q in
      drives b e (refused_board b (number_of code)) k.1 (Err code) b refl (sym (ne_eqb (number_of code) 0 k.0)) refl

  pub far : (a : Answer) (after : Board) → t ≡ Far → a ≡ far_answer (moved_of b.station e v)
      → after ≡ record b { station = station_far b.station e identifier (moved_of b.station e v).remote } → Drives b e (Ok a) after
  far a after q h p =
      let k = turn_far b b.station b.calls d.free d.soon d.dues d.held e w.short (beside b d long w) late place i identifier at read drawn t r (moved_of b.station e v) q refl in
      drives b e (far_board b (far_answer (moved_of b.station e v)) _) k (Ok a) after h refl p

  pub done : (a : Answer) (after : Board) → t ≡ Done → a ≡ answer_of place (acted_of e v)
      → after ≡ record b { station = station_on b.station e identifier; calls = set b.calls place (acted_of e v).call } → Drives b e (Ok a) after
  done a after q h p =
      let k = turn_done b b.station b.calls d.free d.soon d.dues d.held e w.short (beside b d long w) late place i identifier at read drawn t r (acted_of e v) q refl in
      let n : i ≡ place = read ∙ within_near place b.len (reads q).there in
      drives b e (done_board b (station_on b.station e identifier) place (acted_of e v)) (ap (λ j. done_board b (station_on b.station e identifier) j (acted_of e v)) (sym n) ∙ k) (Ok a) after h refl p

-- what is read again is the record that was seen
pub read_again : (b : Board) (v : Seen) → length b.calls ≡ 64 → b.len ≤ 64 → Reads b v → get_or b.calls v.place unread ≡ v.call
read_again b v long short r =
    read_any b.calls v.place unread free_call (omega (arith, r.there)) ∙ (sym (table_at b.len b.calls short long v.place r.there) ∙ sym r.call)
