-- Requests with their timers in a list: a clock event ends the first that is due, and as many of them as the list is long leave none.
-- Assumes nothing.
use Prim.Native.Nat.{ℕ, zero, suc, ◌-◌}
use native.Mathlib.Omega.{arith}
use mathlib.Core.Path.{◌≡◌}
use mathlib.Core.List.{List}
use lib.ListN.{get_or}
use Rattle.ground.specs.Lists.{first}
use Rattle.ground.proofs.Lowest.{count, count_none, count_length, count_lowest}
use Rattle.timed.specs.Timed.{Timer, due_now, ended, no_timer, after_tick, after_ticks}
use Rattle.timed.specs.Laws.{TicksClear}

pub tick_count : (time : ℕ) (l : List Timer) → count (due_now time) (after_tick time l) ≡ count (due_now time) l - 1
tick_count time l = count_lowest (due_now time) l (ended (get_or l (first (due_now time) l) no_timer)) tt

pub ticks_count : (n time : ℕ) (l : List Timer) → count (due_now time) (after_ticks n time l) ≡ count (due_now time) l - n
unfolding after_ticks
ticks_count zero time l = omega arith
ticks_count (suc n) time l =
    let a = ticks_count n time (after_tick time l) in
    let b = tick_count time l in
    omega arith

pub ticks_clear : TicksClear
ticks_clear n time l h =
    let a = ticks_count n time l in
    let b = count_length (due_now time) l in
    let z : count (due_now time) (after_ticks n time l) ≡ 0 = omega arith in
    count_none (due_now time) no_timer (after_ticks n time l) tt z
