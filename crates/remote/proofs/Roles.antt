-- What an event is here, by the bounds of its kind, and what its step comes to. Assumes nothing.
use Prim.Native.Nat.{ℕ, ◌+◌, ◌*◌, ◌/◌, ◌≤◌, ◌<◌}
use native.Mathlib.Omega.{arith}
use mathlib.Core.Path.{◌≡◌, refl}
use mathlib.Core.Bool.{Bool, true, false, ◌&&◌}
use lib.Dec.{T, leb, eqb}
use borrow.Author.Tests.{le-leb, lt-leb, ne_eqb, leb-true, leb-false}
use Rattle.ground.specs.Choice.{when◌then◌else◌}
use Rattle.ground.proofs.Bools.{is_true, from_true, by_cases}
use Rattle.ground.proofs.Walks.{both, and_false}
use Rattle.event.specs.declared.Event.{Event}
use Rattle.event.specs.Kinds.{clock}
use Rattle.call.specs.Messages.{no_identifier}
use Rattle.timed.specs.Timed.{waits, answers}
use Rattle.remote.specs.declared.Remote.{Remote}
use Rattle.event.specs.Remote.{sort_of, asks, of_remote, remote_fields}
use Rattle.remote.specs.Rules.{its, remote_refusal, asking, received, over, act_remote, unmoved, lapse, step}

-- each kind is its role and its sort: 16 to 31 are four roles of four sorts
pub sort_small : (e : Event) → sort_of e < 4
sort_small e = omega arith

pub role_and_sort : (e : Event) → e.kind ≡ 4 * (e.kind / 4) + sort_of e
role_and_sort e = omega arith

pub data Role (e : Event) : Type 0 where
  clocks : T (clock e) → Role e
  asked : 16 ≤ e.kind → e.kind ≤ 19 → T (remote_fields e) → Role e
  invoked : 20 ≤ e.kind → e.kind ≤ 23 → T (remote_fields e) → Role e
  replied : 24 ≤ e.kind → e.kind ≤ 31 → T (remote_fields e) → Role e
  foreign : clock e ≡ false → of_remote e && remote_fields e ≡ false → Role e

-- of kinds 16 to 31, by two bounds between them
kinds : (e : Event) → 16 ≤ e.kind → e.kind ≤ 31 → T (remote_fields e) → (b c : Bool) → leb e.kind 19 ≡ b → leb e.kind 23 ≡ c → Role e
kinds e l h f true c p q = asked l (leb-true e.kind 19 p) f
kinds e l h f false true p q = invoked (leb-false e.kind 19 p) (leb-true e.kind 23 q) f
kinds e l h f false false p q = replied (leb-false e.kind 23 q) h f

pub role : (e : Event) → Role e
role e =
    by_cases (clock e) (λ c. clocks (from_true (clock e) c)) (λ c.
    by_cases (of_remote e && remote_fields e)
    (λ t.
    let (o, f) = both (of_remote e) (remote_fields e) t in
    let (l, h) = both (leb 16 e.kind) (leb e.kind 31) o in
    kinds e (leb-true 16 e.kind l) (leb-true e.kind 31 h) (from_true (remote_fields e) f) (leb e.kind 19) (leb e.kind 23) refl refl)
    (λ n. foreign c n))

module _ (r : Remote) (e : Event) (identifier : ℕ) where
  pub step_clocks : T (clock e) → step r e identifier ≡ lapse e.time r
  unfolding step
  step_clocks c = rw (is_true (clock e) c)

  pub step_foreign : clock e ≡ false → of_remote e && remote_fields e ≡ false → step r e identifier ≡ unmoved r
  unfolding step
  step_foreign c n = simp (c, n)

  pub step_asked : 16 ≤ e.kind → e.kind ≤ 19 → T (remote_fields e) → step r e identifier ≡ (when waits (its r e) then unmoved r else asking r e identifier)
  unfolding step remote_refusal act_remote
  step_asked l h f =
      let a = le-leb 16 e.kind l in
      let b = le-leb e.kind 19 h in
      let c = lt-leb 24 e.kind (omega arith) in
      let d = le-leb e.kind 31 (omega arith) in
      let z = ne_eqb e.kind 10 (λ q. omega arith) in
      by_cases (waits (its r e)) (λ w. simp (z, a, b, c, d, w, is_true (remote_fields e) f)) (λ w. simp (z, a, b, c, d, w, is_true (remote_fields e) f))

  pub step_invoked : 20 ≤ e.kind → e.kind ≤ 23 → T (remote_fields e) → step r e identifier ≡ received r e
  unfolding step remote_refusal act_remote
  step_invoked l h f =
      let a = le-leb 16 e.kind (omega arith) in
      let b = lt-leb e.kind 19 (omega arith) in
      let c = lt-leb 24 e.kind (omega arith) in
      let d = le-leb e.kind 31 (omega arith) in
      let z = ne_eqb e.kind 10 (λ q. omega arith) in
      simp (z, a, b, c, d, le-leb 20 e.kind l, le-leb e.kind 23 h, is_true (remote_fields e) f)

  pub step_replied : 24 ≤ e.kind → e.kind ≤ 31 → T (remote_fields e)
      → step r e identifier ≡ (when answers e.identifier (its r e) then over r (sort_of e) no_identifier else unmoved r)
  unfolding step remote_refusal act_remote
  step_replied l h f =
      let a = le-leb 16 e.kind (omega arith) in
      let b = lt-leb e.kind 19 (omega arith) in
      let c = le-leb 24 e.kind l in
      let d = le-leb e.kind 31 h in
      let g = lt-leb e.kind 23 (omega arith) in
      let z = ne_eqb e.kind 10 (λ q. omega arith) in
      let k = is_true (remote_fields e) f in
      by_cases (waits (its r e))
      (λ w. by_cases (eqb e.identifier (its r e).identifier) (λ i. simp (z, a, b, c, d, g, k, w, i, and_false)) (λ i. simp (z, a, b, c, d, g, k, w, i)))
      (λ w. simp (z, a, b, c, d, g, k, w))

-- only a request reads the identifier
pub step_any : (r : Remote) (e : Event) (i j : ℕ) → asks e ≡ false → step r e i ≡ step r e j
unfolding step act_remote
step_any r e i j q = rw q
