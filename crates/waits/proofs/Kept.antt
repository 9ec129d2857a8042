-- What a record's rules do to the waiting ones keeps them sound, and as strict. Assumes nothing.
use Prim.Native.Nat.{ℕ, zero, suc, ◌≤◌}
use mathlib.Core.Path.{◌≡◌, refl}
use mathlib.Core.Bool.{true, not}
use mathlib.Core.List.{List, [], ◌∷◌, Forall₂}
use native.Mathlib.Nat.{le_refl}
use native.Mathlib.Numerals.{add-one}
use native.Mathlib.Omega.{arith}
use lib.Dec.{T, eqb, leb, eqb→eq, leb→le, le→leb}
use lib.ListN.{length, take, drop, set, replicate, length-set}
use Rattle.ground.specs.Lists.{all}
use Rattle.ground.proofs.Bools.{and_l, and_r, and_i, eq→eqb}
use Rattle.ground.proofs.Pointwise.{set_rel}
use Rattle.notice.specs.declared.Dli1.{Dli1}
use Rattle.notice.specs.Stricter.{StricterDli1, lowered}
use Rattle.waits.specs.declared.Waits.{Waits}
use Rattle.waits.specs.Waits.{no_dli1, no_waits, waits_for, behind, waits_with, room, last_after, last_number}
use Rattle.waits.specs.Soundness.{dli1_unused, first_holds, later_holds, places_there, waits_hold, later_unused, waits_unused}
use Rattle.waits.specs.Laws.{StricterWaits, each}
use Rattle.waits.proofs.Counted.{room_below}

ruleset parts = (and_l, and_r, eqb→eq)

none_of : (d : Dli1) → T (dli1_unused d) → d ≡ no_dli1
none_of d t =
    let a : d.reason ≡ 0 = search parts in
    let b : d.option ≡ 0 = search parts in
    let c : d.number ≡ 0 = search parts in
    λ z. record { reason = a z; option = b z; number = c z }

nones : (l : List Dli1) → T (all dli1_unused l) → l ≡ replicate (length l) no_dli1
unfolding all
nones [] t = refl
nones (d ∷ l) t =
    let p = none_of d (and_l (dli1_unused d) (all dli1_unused l) t) in
    let q = nones l (and_r (dli1_unused d) (all dli1_unused l) t) in
    λ z. p z ∷ q z

-- none waits: each field is 0
pub unused_none : (w : Waits) → T (waits_unused w) → w ≡ no_waits
unfolding waits_unused
unused_none w t =
    let f = none_of w.first (and_l (dli1_unused w.first) (later_unused w) t) in
    let n : w.count ≡ 0 = search parts in
    let k : length w.later ≡ 14 = search parts in
    let u : T (all dli1_unused w.later) = search parts in
    let l : w.later ≡ replicate 14 no_dli1 = rw k at (nones w.later u) in
    λ z. record { first = f z; count = n z; later = l z }

-- one more among those that wait
take_with : (l : List Dli1) (n : ℕ) (d : Dli1) → T (later_holds d) → T (all later_holds (take n l)) → T (all later_holds (take (suc n) (set l n d)))
unfolding all
take_with [] n d p t = tt
take_with (x ∷ l) zero d p t = and_i (later_holds d) true p tt
take_with (x ∷ l) (suc n) d p t =
    and_i (later_holds x) _ (and_l (later_holds x) (all later_holds (take n l)) t) (take_with l n d p (and_r (later_holds x) (all later_holds (take n l)) t))

drop_with : (l : List Dli1) (n : ℕ) (d : Dli1) → T (all dli1_unused (drop n l)) → T (all dli1_unused (drop (suc n) (set l n d)))
unfolding all
drop_with [] n d t = tt
drop_with (x ∷ l) zero d t = and_r (dli1_unused x) (all dli1_unused l) t
drop_with (x ∷ l) (suc n) d t = drop_with l n d t

pub with_holds : (w : Waits) (d : Dli1) → T (room w) → T (waits_hold w) → T (later_holds d) → T (waits_hold (waits_with w d))
unfolding waits_hold
with_holds w d r t p =
    let f : T (first_holds w.first) = search parts in
    let q : length w.later ≡ 14 = search parts depth 8 in
    let k = room_below w q r in
    let a : T (all later_holds (behind w)) = search parts depth 8 in
    let b : T (all dli1_unused (drop w.count w.later)) = search parts in
    let a' = take_with w.later w.count d p a in
    let b' = drop_with w.later w.count d b in
    let s : T (leb (suc w.count) 14) = le→leb (suc w.count) 14 (omega arith) in
    let l : T (places_there (waits_with w d)) = eq→eqb (length (set w.later w.count d)) 14 (rw length-set q) in
    rw add-one (search and_i)

pub none_unused : T (waits_unused no_waits)
unfolding all waits_unused
none_unused = tt

pub for_holds : (d : Dli1) → T (first_holds d) → T (waits_hold (waits_for d))
unfolding all waits_hold
for_holds d p = and_i (first_holds d) true p tt

-- as strict as themselves
dli1_same : (d : Dli1) → d.option ≤ 2 → StricterDli1 d d
dli1_same d k = lowered d d.option (le_refl d.option) k

first_small : (d : Dli1) → T (first_holds d) → d.option ≤ 2
first_small d t = leb→le d.option 2 (search parts)

later_small : (d : Dli1) → T (later_holds d) → d.option ≤ 2
later_small d t = leb→le d.option 2 (search parts)

unused_small : (d : Dli1) → T (dli1_unused d) → d.option ≤ 2
unused_small d t = let z : d.option ≡ 0 = search parts in omega arith

each_same : (l : List Dli1) (n : ℕ) → T (all later_holds (take n l)) → T (all dli1_unused (drop n l)) → Forall₂ StricterDli1 l l
unfolding all
each_same [] n a b = Forall₂.nil
each_same (x ∷ l) zero a b =
    Forall₂.cons (dli1_same x (unused_small x (and_l (dli1_unused x) (all dli1_unused l) b))) (each_same l zero tt (and_r (dli1_unused x) (all dli1_unused l) b))
each_same (x ∷ l) (suc n) a b =
    Forall₂.cons (dli1_same x (later_small x (and_l (later_holds x) (all later_holds (take n l)) a))) (each_same l n (and_r (later_holds x) (all later_holds (take n l)) a) b)

pub hold_stricter : (w : Waits) → T (waits_hold w) → StricterWaits w w
unfolding waits_hold
hold_stricter w t =
    let f : T (first_holds w.first) = search parts in
    let a : T (all later_holds (behind w)) = search parts depth 8 in
    let b : T (all dli1_unused (drop w.count w.later)) = search parts in
    each w w.first w.later (dli1_same w.first (first_small w.first f)) (each_same w.later w.count a b)

pub none_stricter : StricterWaits no_waits no_waits
unfolding all
none_stricter = each no_waits no_dli1 no_waits.later (dli1_same no_dli1 (omega arith)) (each_same no_waits.later 0 tt tt)

pub for_stricter : {d d' : Dli1} → StricterDli1 d d' → StricterWaits (waits_for d) (waits_for d')
unfolding all
for_stricter {d} {d'} p = each (waits_for d) d' no_waits.later p (each_same no_waits.later 0 tt tt)

pub with_stricter : {w w' : Waits} {d d' : Dli1} → StricterWaits w w' → StricterDli1 d d' → StricterWaits (waits_with w d) (waits_with w' d')
with_stricter (each w first later p ps) q = each _ first _ p (set_rel w.count ps q)

-- what waits, by its parts
pub record Held (w : Waits) : Type 0 where
  pub first : T (first_holds w.first)
  pub later : T (all later_holds (behind w))
  pub party : T (not (eqb (last_number w) 0))
  pub places : length w.later ≡ 14

last_there : (f : Dli1) (l : List Dli1) → T (not (eqb f.number 0)) → T (all later_holds l) → T (not (eqb (last_after f l) 0))
unfolding all last_after
last_there f [] n t = n
last_there f (d ∷ l) n t =
    let p : T (later_holds d) = and_l (later_holds d) (all later_holds l) t in
    last_there d l (search parts) (and_r (later_holds d) (all later_holds l) t)

pub held : (w : Waits) → T (waits_hold w) → Held w
unfolding waits_hold
held w t =
    let f : T (first_holds w.first) = search parts in
    let a : T (all later_holds (behind w)) = search parts depth 8 in
    let q : length w.later ≡ 14 = search parts depth 8 in
    record { first = f; later = a; places = q; party = last_there w.first (behind w) (search parts) a }
