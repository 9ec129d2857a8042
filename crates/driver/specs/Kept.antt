-- What a driver keeps beside its board.
use Rattle.std.specs.Prelude.{◌≤◌, true, ◌≡◌}
use Rattle.ground.specs.Lists.{all}
use Rattle.expiry.specs.Expiry.{at_least}
use Rattle.draw.specs.Column.{over, frees}
use Rattle.notes.specs.declared.Notes.{Notes}
use Rattle.notes.specs.Notes.{notes_of}
use Rattle.board.specs.declared.Board.{Board}

-- the board holds 64 records at most, and what is kept is what its table comes to, but that the bound may lie below the least time
pub record Kept (b : Board) (d : Notes) : Type 0 where
  pub short : b.len ≤ 64
  pub same : d ≡ record (notes_of (over b.len b.calls frees)) { soon = d.soon }
  pub bound : all (at_least d.soon) d.dues ≡ true
