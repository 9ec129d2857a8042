-- A piece of at most 65,536 bytes is played whole into a buffer of 262,144: less than a record is left. Assumes nothing.
use Prim.Native.Nat.{ℕ, ◌-◌, ◌≤◌}
use mathlib.Core.List.{List}
use mathlib.Core.Path.{◌≡◌, sym}
use native.Mathlib.Omega.{arith}
use lib.ListN.{length, take}
use lib.Seq.{length-take-le}
use Rattle.board.specs.declared.Board.{Board}
use Rattle.panel.specs.declared.Played.{Played}
use Rattle.panel.specs.Play.{Plays}
use Rattle.panelrun.specs.Between.{Between}

-- the count of a part that is lent
pub counts : (n : ℕ) (xs : List ℕ) → n ≤ length xs → n ≡ length (take n xs)
counts n xs h = sym (length-take-le n xs h)

module _ (b : Board) (position end : ℕ) (input old new : List ℕ) (r : Played) (w : Plays b position (take end input) old new r)
    (h : end ≤ length input) (k : length input ≡ 65536) (l : length old ≡ 262144) where
  pub used_within : r.used ≤ end
  used_within = omega (arith, w.used, counts end input h)

  pub kept : Between position (record { board = r.board; position = r.position; held = end - r.used })
  kept = record {
    sound = w.sound;
    near = omega (arith, w.next, counts end input h);
    short = omega (arith, w.used, counts end input h);
  }
