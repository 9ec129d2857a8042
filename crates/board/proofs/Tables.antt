-- A board that holds another table as long as its own: what is taken of it, and a step. Assumes nothing.
use Prim.Native.Nat.{ℕ, zero, suc, ◌≤◌}
use mathlib.Core.List.{List, [], ◌∷◌, ◌++◌}
use mathlib.Core.Path.{◌≡◌, refl, ap}
use native.Mathlib.Omega.{arith}
use borrow.Author.Tests.{le-ltb}
use lib.ListN.{length, take, drop}
use Rattle.event.specs.declared.Event.{Event}
use Rattle.call.specs.declared.Call.{Call}
use Rattle.station.specs.declared.Station.{Station}
use Rattle.station.specs.Step.{step}
use Rattle.board.specs.declared.Board.{Board}
use Rattle.board.specs.Board.{table_of, board_with}
use Rattle.board.proofs.OneEvent.{put_back, step_board}

-- what was taken and changed is taken again, and the rest is what it was
pub taken_again : {A : Type 0} (n : ℕ) (l x : List A) → length x ≡ length (take n l) → (take n (x ++ drop n l) ≡ x) × (drop n (x ++ drop n l) ≡ drop n l)
taken_again zero l [] e = (refl, refl)
taken_again zero l (y ∷ ys) e = absurd (omega (arith, e))
taken_again (suc n) [] [] e = (refl, refl)
taken_again (suc n) [] (y ∷ ys) e = absurd (omega (arith, e))
taken_again (suc n) (z ∷ zs) [] e = absurd (omega (arith, e))
taken_again (suc n) (z ∷ zs) (y ∷ ys) e = let w = taken_again n zs ys (omega (arith, e)) in (ap (λ r. y ∷ r) w.0, w.1)

pub one_step : (b : Board) (s : Station) (calls : List Call) (e : Event) → b.len ≤ 64 → length calls ≡ length (table_of b)
    → step_board (board_with b s calls) e ≡ put_back b (step s calls e)
one_step b s calls e short q = let w = taken_again b.len b.calls calls q in rw (le-ltb 64 b.len short, w.0, w.1)
