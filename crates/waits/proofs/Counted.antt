-- How many wait, by the count that a record holds. Assumes nothing.
use Prim.Native.Nat.{suc, ◌≤◌, ◌<◌}
use mathlib.Core.Path.{◌≡◌, refl, ap}
use mathlib.Core.List.{List, Forall₂}
use native.Mathlib.Omega.{arith}
use lib.Dec.{T, ltb, ltb→lt}
use borrow.Author.Tests.{lt-ltb, ltb-true, ltb-false}
use lib.ListN.{length}
use lib.Seq.{length-take-le, take_all}
use Rattle.ground.proofs.Bools.{by_cases}
use Rattle.notice.specs.declared.Dli1.{Dli1}
use Rattle.notice.specs.Stricter.{StricterDli1}
use Rattle.waits.specs.declared.Waits.{Waits}
use Rattle.waits.specs.Waits.{room}
use Rattle.waits.specs.Laws.{each, RoomSame}
use Rattle.waits.proofs.Laws.{take_each}

pub room_read : (w : Waits) → length w.later ≡ 14 → room w ≡ ltb w.count 14
unfolding room
room_read w long =
    by_cases (ltb w.count 14)
    (λ y.
    let k : w.count < 14 = ltb-true w.count 14 y in
    rw (y, length-take-le w.count w.later (omega arith), lt-ltb (suc w.count) 15 (omega arith)))
    (λ n.
    let k : 14 ≤ w.count = ltb-false w.count 14 n in
    rw (n, take_all w.count w.later (omega arith), long) refl)

-- there is room behind the first
pub room_below : (w : Waits) → length w.later ≡ 14 → T (room w) → w.count < 14
room_below w long t = ltb→lt w.count 14 (rw (room_read w long) at t)

same_length : {l l' : List Dli1} → Forall₂ StricterDli1 l l' → length l' ≡ length l
same_length Forall₂.nil = refl
same_length (Forall₂.cons p ps) = ap suc (same_length ps)

pub room_same : RoomSame
unfolding room
room_same _ _ (each w first later p ps) = rw (same_length (take_each w.count ps))
