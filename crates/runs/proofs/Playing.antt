-- A run in its middle, and after one event more. Assumes nothing.
use Prim.Native.Nat.{ℕ, ◌+◌, ◌*◌, ◌%◌}
use mathlib.Core.Bool.{true, false}
use mathlib.Core.List.{List}
use mathlib.Core.Path.{◌≡◌, refl, ◌∙◌, sym}
use native.Mathlib.Omega.{arith}
use lib.ListN.{length}
use Rattle.std.specs.Prelude.{Result, is_ok}
use Rattle.event.specs.declared.Event.{Event}
use Rattle.event.specs.declared.Refusal.{Refusal}
use Rattle.wire.specs.Record.{event_at}
use Rattle.station.specs.declared.Answer.{Answer}
use Rattle.board.specs.declared.Board.{Board}
use Rattle.board.proofs.OneEvent.{step_sound_board}
use Rattle.driver.specs.Driver.{Drives}
use Rattle.runs.specs.declared.Ran.{Ran}
use Rattle.runs.specs.Run.{ran}
use Rattle.runs.proofs.Folds.{run_first, run_step_lem}

-- after k events
pub record Playing (b : Board) (bytes : List ℕ) (now : Board) (done refused k : ℕ) : Type 0 where
  pub count : done + refused ≡ k
  pub so_far : ran done refused (length bytes % 24) now ≡ run_first step_sound_board b bytes k

module _ (b : Board) (bytes : List ℕ) (now : Board) (done refused k : ℕ) (w : Playing b bytes now done refused k)
    (e : Event) (q : e ≡ event_at bytes (k * 24)) (r : Result Answer Refusal) (after : Board) (x : Drives now e r after) where
  abbrev before : Ran
  before = ran done refused (length bytes % 24) now

  pub playing_done : is_ok r ≡ true → Playing b bytes after (done + 1) refused (k + 1)
  playing_done h = record {
    count = omega (arith, w.count);
    so_far = rw x.board (rw (sym x.done ∙ h) at (run_step_lem step_sound_board b bytes k before e (step_sound_board now e) w.so_far q refl));
  }

  pub playing_refused : is_ok r ≡ false → Playing b bytes after done (refused + 1) (k + 1)
  playing_refused h = record {
    count = omega (arith, w.count);
    so_far = rw x.board (rw (sym x.done ∙ h) at (run_step_lem step_sound_board b bytes k before e (step_sound_board now e) w.so_far q refl));
  }
