-- What is kept is what an accepted activation or deactivation of its type left. Assumes nothing.
use Prim.Native.Nat.{ℕ, ◌≤◌}
use native.Mathlib.Omega.{arith}
use mathlib.Core.Path.{◌≡◌, refl, sym}
use mathlib.Core.Bool.{true, false, ◌&&◌}
use lib.Dec.{T, leb, eqb, eqb→eq, leb→le}
use borrow.Author.Tests.{le-leb, lt-leb, ne_eqb, eqb-true, eqb-false}
use Rattle.ground.specs.Choice.{when◌then◌else◌}
use Rattle.ground.proofs.Bools.{and_l, and_r, by_cases}
use Rattle.ground.proofs.Walks.{and_false}
use Rattle.event.specs.declared.Event.{Event}
use Rattle.call.specs.Messages.{no_identifier}
use Rattle.timed.specs.Timed.{waits, answers}
use Rattle.remote.specs.declared.Remote.{Remote}
use Rattle.remote.specs.declared.Moved.{Moved}
use Rattle.event.specs.Remote.{sort_of, receives, remote_fields, type_fits}
use Rattle.remote.specs.Held.{kept_for, with_kept, first_due}
use Rattle.remote.specs.Rules.{its, asking, accepts, received, over, unmoved, lapse, step}
use Rattle.remote.specs.Kinds.{letter_result}
use Rattle.remote.specs.Laws.{left_by, LeftByOne, StoredWhenEnabled, DeclinedElse, DeclinedWhereNone, DeclinedWhereForbidden, RemovedWhereOne, InformedWhereOne, AllowedWhereMarked}
use Rattle.remote.proofs.Held.{kept_here, kept_there}
use Rattle.remote.proofs.Roles.{Role, clocks, asked, invoked, replied, foreign, role, step_clocks, step_foreign, step_asked, step_invoked, step_replied}

-- the type of an invoke that isn't a check
pub typed : (e : Event) → 20 ≤ e.kind → e.kind ≤ 23 → (eqb (sort_of e) 3 ≡ false) → T (remote_fields e) → (1 ≤ e.reason) × (e.reason ≤ 3)
unfolding remote_fields
typed e l h n f =
    let t : T (type_fits e) = search (and_l, and_r) in
    let u : T (leb 1 e.reason && leb e.reason 3) = simp (le-leb 16 e.kind (omega arith), le-leb e.kind 23 h, n) at t in
    (search (and_l, leb→le), search (and_r, leb→le))

module _ (type : ℕ) (low : 1 ≤ type) (high : type ≤ 3) (r : Remote) (e : Event) (identifier : ℕ) where
  abbrev Left : Moved → Type 0
  Left m = kept_for type m.remote.kept ≡ left_by type (kept_for type r.kept) e m.message.letter

  -- all but an invoke received that gets a result leave what is kept
  quiet : (m : Moved) → receives e && eqb m.message.letter letter_result ≡ false → m.remote.kept ≡ r.kept → Left m
  quiet m n k = rw (n, k)

  -- an invoke that is accepted: what is kept for its type is put there, or nothing is
  stores : (number : ℕ) → 1 ≤ e.reason → e.reason ≤ 3
      → kept_for type (with_kept e.reason number r.kept) ≡ (when eqb e.reason type then number else kept_for type r.kept)
  stores number a b =
      by_cases (eqb e.reason type)
      (λ q. let z = eqb-true e.reason type q in rw q (rw z (kept_here number r.kept type low high)))
      (λ q. rw q (kept_there number r.kept e.reason a b type low high (λ z. eqb-false e.reason type q (sym z))))

  answers_left : 20 ≤ e.kind → e.kind ≤ 23 → T (remote_fields e) → Left (received r e)
  answers_left l h f =
      let v : receives e ≡ true = simp (le-leb 20 e.kind l, le-leb e.kind 23 h) in
      by_cases (accepts r e)
      (λ a. rw (a, v) (by_cases (eqb (sort_of e) 0)
      (λ s.
      let z = eqb-true (sort_of e) 0 s in
      let (x, y) = typed e l h (rw z) f in
      rw z (stores e.second x y))
      (λ s. by_cases (eqb (sort_of e) 1)
      (λ t.
      let z = eqb-true (sort_of e) 1 t in
      let (x, y) = typed e l h (rw z) f in
      rw z (stores 0 x y))
      (λ t.
      rw (s, t)))))
      (λ a. rw (a, v))

  step_left : Role e → Left (step r e identifier)
  unfolding lapse
  step_left (clocks c) =
      rw (step_clocks r e identifier c)
      (quiet (lapse e.time r) (rw (eqb→eq e.kind 10 c)) (by_cases (eqb (first_due e.time r.pending) 4) (λ w. rw w) (λ w. rw w)))
  step_left (foreign c f) = rw (step_foreign r e identifier c f) (quiet (unmoved r) (and_false (receives e)) refl)
  step_left (asked l h f) =
      let n : receives e ≡ false = rw (lt-leb 20 e.kind (omega arith)) in
      rw (step_asked r e identifier l h f)
      (quiet (when waits (its r e) then unmoved r else asking r e identifier) (rw n) (by_cases (waits (its r e)) (λ w. rw w) (λ w. rw w)))
  step_left (invoked l h f) = rw (step_invoked r e identifier l h f) (answers_left l h f)
  step_left (replied l h f) =
      let n : receives e ≡ false = simp (lt-leb e.kind 23 (omega arith), and_false) in
      rw (step_replied r e identifier l h f)
      (quiet (when answers e.identifier (its r e) then over r (sort_of e) no_identifier else unmoved r) (rw n) (by_cases (answers e.identifier (its r e)) (λ w. rw w) (λ w. rw w)))

pub left_by_one : LeftByOne
left_by_one type low high r e identifier = step_left type low high r e identifier (role e)

pub stored_when_enabled : StoredWhenEnabled
stored_when_enabled r e identifier k f a =
    let l : 20 ≤ e.kind = omega arith in
    let h : e.kind ≤ 23 = omega arith in
    let z : sort_of e ≡ 0 = rw k in
    let (x, y) = typed e l h (rw k) f in
    rw (step_invoked r e identifier l h f, k, a)
    (record {
      result = refl;
      echo = refl;
      told = refl;
      here = kept_here e.second r.kept e.reason x y;
      others = λ type low high n. kept_there e.second r.kept e.reason x y type low high n;
    })

pub declined_else : DeclinedElse
declined_else r e identifier k f a =
    let l : 20 ≤ e.kind = omega arith in
    let h : e.kind ≤ 23 = omega arith in
    rw (step_invoked r e identifier l h f, k, ne_eqb r.enabled 1 a) (record { error = refl; echo = refl; told = refl; stays = refl })

pub declined_where_none : DeclinedWhereNone
declined_where_none r e identifier low high f z =
    let l : 20 ≤ e.kind = omega arith in
    let h : e.kind ≤ 23 = omega arith in
    let a : sort_of e ≡ 0 → ⊥ = λ q. omega arith in
    let b : sort_of e ≡ 3 → ⊥ = λ q. omega arith in
    rw (step_invoked r e identifier l h f, ne_eqb (sort_of e) 0 a, ne_eqb (sort_of e) 3 b, z) (record { error = refl; echo = refl; told = refl; stays = refl })

pub declined_where_forbidden : DeclinedWhereForbidden
declined_where_forbidden r e identifier k f n =
    let l : 20 ≤ e.kind = omega arith in
    let h : e.kind ≤ 23 = omega arith in
    rw (step_invoked r e identifier l h f, k, ne_eqb r.allowed 1 n) (record { error = refl; echo = refl; told = refl; stays = refl })

pub removed_where_one : RemovedWhereOne
removed_where_one r e identifier k f n =
    let l : 20 ≤ e.kind = omega arith in
    let h : e.kind ≤ 23 = omega arith in
    let (x, y) = typed e l h (rw k) f in
    rw (step_invoked r e identifier l h f, k, ne_eqb (kept_for e.reason r.kept) 0 n)
    (record {
      result = refl;
      echo = refl;
      told = refl;
      here = kept_here 0 r.kept e.reason x y;
      others = λ type low high n. kept_there 0 r.kept e.reason x y type low high n;
    })

pub informed_where_one : InformedWhereOne
informed_where_one r e identifier k f n =
    let l : 20 ≤ e.kind = omega arith in
    let h : e.kind ≤ 23 = omega arith in
    rw (step_invoked r e identifier l h f, k, ne_eqb (kept_for e.reason r.kept) 0 n) (record { result = refl; echo = refl; told = refl; carries = refl; stays = refl })

pub allowed_where_marked : AllowedWhereMarked
allowed_where_marked r e identifier k f a =
    let l : 20 ≤ e.kind = omega arith in
    let h : e.kind ≤ 23 = omega arith in
    rw (step_invoked r e identifier l h f, k, a) (record { result = refl; echo = refl; told = refl; carries = refl; stays = refl })
