-- Where none of the four waits they are sound exactly where their other fields are 0. Assumes nothing.
use Prim.Native.Nat.{ℕ}
use mathlib.Core.Bool.{Bool, true, false, ◌&&◌}
use mathlib.Core.Path.{◌≡◌, refl}
use borrow.Author.Tests.{eqb-true}
use Rattle.ground.proofs.Bools.{and_l, and_r, and_i}
use Rattle.ground.proofs.Walks.{both}
use Rattle.timed.specs.declared.Pending.{Pending}
use lib.Dec.{T, eqb}
use Rattle.timed.specs.Timed.{holds}
use Rattle.remote.specs.declared.Pendings.{Pendings}
use Rattle.remote.specs.Held.{pendings_hold}
use Rattle.holding.specs.Idle.{four_idle, four_blank}

-- one that doesn't wait
idle_holds : (last : ℕ) (p : Pending) → eqb p.wait 0 ≡ true → holds last p ≡ (eqb p.identifier 0 && eqb p.start 0)
idle_holds last p h = rw (eqb-true p.wait 0 h) refl

iff : (a b : Bool) → (T a → T b) → (T b → T a) → a ≡ b
iff true true f g = refl
iff true false f g = absurd (f tt)
iff false true f g = absurd (g tt)
iff false false f g = refl

-- the order of the tests doesn't matter
sorted : (a d i c a' d' i' c' : Bool) → (a && d && i && c && a' && d' && i' && c') ≡ ((a' && a) && (d' && d) && (i' && i) && (c' && c))
sorted a d i c a' d' i' c' = iff _ _ (λ h. search (and_i, and_l, and_r) depth 16) (λ h. search (and_i, and_l, and_r) depth 16)

-- none of the four waits, one by one
pub record NoneWaits (p : Pendings) : Type 0 where
  pub activation : eqb p.activation.wait 0 ≡ true
  pub deactivation : eqb p.deactivation.wait 0 ≡ true
  pub interrogation : eqb p.interrogation.wait 0 ≡ true
  pub check : eqb p.check.wait 0 ≡ true

pub none_waits_lem : (p : Pendings) → four_idle p ≡ true → NoneWaits p
none_waits_lem p h =
    let a = eqb p.activation.wait 0 in
    let d = eqb p.deactivation.wait 0 in
    let i = eqb p.interrogation.wait 0 in
    let all = both (a && d && i) (eqb p.check.wait 0) h in
    let three = both (a && d) i all.0 in
    let two = both a d three.0 in
    record { activation = two.0; deactivation = two.1; interrogation = three.1; check = all.1 }

pub idle_hold : (last : ℕ) (p : Pendings) → four_idle p ≡ true → four_blank p ≡ pendings_hold last p
idle_hold last p h =
    let n = none_waits_lem p h in
    rw (idle_holds last p.activation n.activation, idle_holds last p.deactivation n.deactivation, idle_holds last p.interrogation n.interrogation, idle_holds last p.check n.check)
    (sorted (eqb p.activation.start 0) (eqb p.deactivation.start 0) (eqb p.interrogation.start 0) (eqb p.check.start 0) (eqb p.activation.identifier 0) (eqb p.deactivation.identifier 0) (eqb p.interrogation.identifier 0) (eqb p.check.identifier 0))
