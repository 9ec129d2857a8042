-- What `play` promises determines its outcome: the buffer, and the board, the position and the counts that it tells. Assumes nothing.
use Prim.Native.Nat.{ℕ, ◌+◌, ◌*◌}
use mathlib.Core.Path.{◌≡◌}
use mathlib.Core.List.{List}
use Rattle.ground.proofs.Determined.{determined}
use Rattle.board.specs.declared.Board.{Board}
use Rattle.board.specs.Board.{table_of}
use Rattle.printout.specs.Panel.{lines_text}
use Rattle.digits.proofs.Determined.{written_determined}
use Rattle.panel.specs.declared.Played.{Played}
use Rattle.panel.specs.Play.{Plays, played_count, played_events, board_after}

module _ (b : Board) (position : ℕ) (bytes old : List ℕ) where
  pub plays_determined : (new new' : List ℕ) (r r' : Played) → Plays b position bytes old new r → Plays b position bytes old new' r' → (new ≡ new') × (r ≡ r')
  plays_determined new new' r r' p q =
      let w = written_determined (lines_text position b.station (table_of b) (played_events bytes old)) 0 old new new' r.written r'.written p.text q.text in
      let u : r.used ≡ r'.used = determined (played_count bytes old * 24) r.used r'.used p.used q.used in
      let n : r.position ≡ r'.position = determined (position + played_count bytes old) r.position r'.position p.next q.next in
      let a : r.board ≡ r'.board = determined (board_after b (played_events bytes old)) r.board r'.board p.board q.board in
      (w.0, λ i. record { board = a i; position = n i; used = u i; written = w.1 i })
