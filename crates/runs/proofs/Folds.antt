-- A run by a step: one event more, and the test of the table made once. Assumes nothing.
use Prim.Native.Nat.{ℕ, zero, suc, ◌+◌, ◌*◌, ◌%◌}
use mathlib.Core.Bool.{Bool, true, false}
use mathlib.Core.List.{List, [], ◌∷◌}
use mathlib.Core.Path.{◌≡◌, refl, sym, ap, ◌∙◌}
use native.Mathlib.Omega.{arith}
use native.Mathlib.Numerals.{add-one}
use lib.Dec.{eqb}
use lib.ListN.{length}
use Rattle.ground.specs.Choice.{when◌then◌else◌}
use Rattle.event.specs.declared.Event.{Event}
use Rattle.wire.specs.Record.{event_at, events_from}
use Rattle.board.specs.declared.Board.{Board}
use Rattle.board.specs.Board.{sound_board}
use Rattle.board.proofs.OneEvent.{Stepped, step_board, step_sound_board}
use Rattle.board.proofs.Boards.{refused_board}
use Rattle.board.proofs.Steps.{tested_step, unsound_step}
use Rattle.board.proofs.Kept.{board_kept}
use Rattle.runs.specs.declared.Ran.{Ran}
use Rattle.runs.specs.Run.{ran}

-- one event of a run: it is counted as done or as refused
abbrev pub counted : Ran → Stepped → Ran
counted r x =
    when eqb x.answer.code 0 then ran (r.done + 1) r.refused r.cut x.board else
    ran r.done (r.refused + 1) r.cut x.board

-- the events of a list, one after the other, by a step on the board: how the loop goes
unfoldable pub run_by : (Board → Event → Stepped) → Ran → List Event → Ran
run_by f r [] = r
run_by f r (e ∷ rest) = run_by f (counted r (f r.board e)) rest

-- the first n records of 24 bytes
abbrev pub run_first : (Board → Event → Stepped) → Board → List ℕ → ℕ → Ran
run_first f b bytes n = run_by f (ran 0 0 (length bytes % 24) b) (events_from bytes 0 n)

module _ (f : Board → Event → Stepped) where
  by_more : (r : Ran) (bytes : List ℕ) (i n : ℕ)
      → run_by f r (events_from bytes i (suc n)) ≡ counted (run_by f r (events_from bytes i n)) (f (run_by f r (events_from bytes i n)).board (event_at bytes (i + n * 24)))
  unfolding run_by events_from
  by_more r bytes i zero = let e : i + 0 * 24 ≡ i = omega arith in rw e
  by_more r bytes i (suc n) =
      let e : i + suc n * 24 ≡ i + 24 + n * 24 = omega arith in
      rw e (by_more (counted r (f r.board (event_at bytes i))) bytes (i + 24) n)

  -- one record more
  pub first_more : (b : Board) (bytes : List ℕ) (k : ℕ)
      → run_first f b bytes (k + 1) ≡ counted (run_first f b bytes k) (f (run_first f b bytes k).board (event_at bytes (k * 24)))
  first_more b bytes k =
      let e : 0 + k * 24 ≡ k * 24 = omega arith in
      rw add-one (rw e at (by_more (ran 0 0 (length bytes % 24) b) bytes 0 k))

  -- the run after one event more, from the run so far and the step
  pub run_step_lem : (b : Board) (bytes : List ℕ) (k : ℕ) (r : Ran) (e : Event) (x : Stepped) → r ≡ run_first f b bytes k → e ≡ event_at bytes (k * 24) → x ≡ f r.board e
      → counted r x ≡ run_first f b bytes (k + 1)
  run_step_lem b bytes k r e x p q h = rw (first_more b bytes k, ← p, ← q, ← h)

  pub first_none : (b : Board) (bytes : List ℕ) → run_first f b bytes 0 ≡ ran 0 0 (length bytes % 24) b
  unfolding run_by events_from
  first_none b bytes = refl

counted_board : (r : Ran) (x : Stepped) → (counted r x).board ≡ x.board
counted_board r x = go (eqb x.answer.code 0)
  where
    go : (t : Bool) → (when t then ran (r.done + 1) r.refused r.cut x.board else ran r.done (r.refused + 1) r.cut x.board).board ≡ x.board
    go true = refl
    go false = refl

-- a test that each step keeps: to make it once is to make it each time
module _ (f g : Board → Event → Stepped) (passes : Board → Bool) (agree : (b : Board) (e : Event) → passes b ≡ true → f b e ≡ g b e)
    (kept : (b : Board) (e : Event) → passes b ≡ true → passes (g b e).board ≡ true) where
  once : (r : Ran) (events : List Event) → passes r.board ≡ true → run_by f r events ≡ run_by g r events
  unfolding run_by
  once r [] h = refl
  once r (e ∷ rest) h =
      let k : passes (counted r (g r.board e)).board ≡ true = rw (counted_board r (g r.board e)) (kept r.board e h) in
      rw (agree r.board e h) (once (counted r (g r.board e)) rest k)

pub tested_once : (b : Board) (bytes : List ℕ) (n : ℕ) → sound_board b ≡ true → run_first step_sound_board b bytes n ≡ run_first step_board b bytes n
tested_once b bytes n h = once step_sound_board step_board sound_board tested_step board_kept (ran 0 0 (length bytes % 24) b) (events_from bytes 0 n) h

-- a board that refuses each event and stays
module _ (g : Board → Event → Stepped) (b : Board) (stays : (e : Event) → refused_board b 1 ≡ g b e) where
  never : (done refused cut : ℕ) (bytes : List ℕ) (i n : ℕ) → run_by g (ran done refused cut b) (events_from bytes i n) ≡ ran done (refused + n) cut b
  unfolding run_by events_from
  never done refused cut bytes i zero = let e : refused + 0 ≡ refused = omega arith in rw e
  never done refused cut bytes i (suc n) =
      let e : refused + suc n ≡ refused + 1 + n = omega arith in
      ap (λ x. run_by g (counted (ran done refused cut b) x) (events_from bytes (i + 24) n)) (sym (stays (event_at bytes i)))
      ∙ (never done (refused + 1) cut bytes (i + 24) n ∙ ap (λ m. ran done m cut b) (sym e))

pub never_sound : (b : Board) (bytes : List ℕ) (n : ℕ) → sound_board b ≡ false → run_first step_board b bytes n ≡ ran 0 n (length bytes % 24) b
never_sound b bytes n h =
    let e : 0 + n ≡ n = omega arith in
    rw e at (never step_board b (λ e. unsound_step b e h) 0 0 (length bytes % 24) bytes 0 n)
