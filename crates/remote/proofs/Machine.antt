-- The request of each sort is a timed request with the length of its sort. Assumes nothing.
use Prim.Native.Nat.{ℕ, ◌≤◌, ◌<◌}
use native.Mathlib.Omega.{arith}
use mathlib.Core.Path.{◌≡◌, refl, sym, ap, ◌∙◌}
use mathlib.Core.Bool.{Bool, true, false, not, ◌&&◌}
use lib.Dec.{T, leb, eqb, eqb→eq}
use borrow.Author.Tests.{le-leb, lt-leb, eq-eqb, ne_eqb, eqb-true, eqb-false}
use Rattle.ground.specs.Choice.{when◌then◌else◌}
use Rattle.ground.proofs.Bools.{and_r, is_true, by_cases, not_not, when_has}
use Rattle.ground.proofs.Walks.{and_false}
use Rattle.ground.proofs.Lowest.{lowest_passes, lowest_is, lowest_small}
use Rattle.event.specs.declared.Event.{Event}
use Rattle.event.specs.Kinds.{clock}
use Rattle.timed.specs.declared.Pending.{Pending}
use Rattle.timed.specs.Timed as timed
use Rattle.timed.proofs.Laws as timed-laws
use Rattle.timed.specs.Timed.{idle, waits, answers, due, Moment, ask, result, reject, pass, after, due_now, no_timer}
use Rattle.remote.specs.declared.Pendings.{Pendings}
use Rattle.remote.specs.declared.Remote.{Remote}
use Rattle.event.specs.Remote.{sort_of, asks, receives, results, of_remote, remote_fields}
use Rattle.remote.specs.Kinds.{length_of}
use Rattle.remote.specs.Held.{pending_of, with_pending, timers_of, first_due}
use Rattle.remote.specs.Rules.{its, accepts, unmoved, expired, lapse, step}
use Rattle.remote.specs.Laws.{moment_of, EachTimed, FirstInOrder, Becomes, stays, over, begins, EachBecomes, WaitsOn}
use Rattle.remote.proofs.Held.{put_here, put_there, timers_at}
use Rattle.remote.proofs.Roles.{Role, clocks, asked, invoked, replied, foreign, role, sort_small, step_clocks, step_foreign, step_asked, step_invoked, step_replied}

-- the first that is due is due
pub first_is_due : (time : ℕ) (q : Pendings) (k : ℕ) → k < 4 → first_due time q ≡ k → T (due (length_of k) time (pending_of k q))
first_is_due time q k h e =
    let p = lowest_passes (due_now time) no_timer (timers_of q) (rw e h) in
    rw (e, timers_at q k h) at p

pub first_in_order : FirstInOrder
first_in_order time q sort small d before =
    lowest_is (due_now time) no_timer (timers_of q) sort small (rw (timers_at q sort small) d)
    (λ j l. let there : j < 4 = omega arith in rw (timers_at q j there) (before j l))

-- a request is put at the event's sort where a test holds: what stands at a sort then
placed : (b : Bool) (k : ℕ) (p : Pending) (q : Pendings) (sort : ℕ) → k < 4 → sort < 4 → (c : Bool) → eqb k sort ≡ c
    → pending_of sort (when b then with_pending k p q else q) ≡ (when c then (when b then p else pending_of k q) else pending_of sort q)
placed true k p q sort h l true e = rw (← eqb-true k sort e) (put_here p q k h)
placed true k p q sort h l false e = put_there p q k h sort l (λ s. eqb-false k sort e (sym s))
placed false k p q sort h l true e = rw (eqb-true k sort e)
placed false k p q sort h l false e = refl

pub first_small : (time : ℕ) (q : Pendings) → first_due time q ≤ 4
first_small time q = lowest_small (due_now time) (timers_of q)

pub below_four : (n : ℕ) → n ≤ 4 → eqb n 4 ≡ false → n < 4
below_four n l e = let d : n ≡ 4 → ⊥ = eqb-false n 4 e in omega arith

-- which moment an event of each role is, by the tests of the kind as the code of the role finds them
module _ (r : Remote) (e : Event) (identifier sort : ℕ) where
  pub moment_asked : 16 ≤ e.kind → e.kind ≤ 19 → T (remote_fields e) → moment_of r e identifier sort ≡ (when eqb (sort_of e) sort then ask identifier else pass)
  moment_asked l h f =
      let a = le-leb 16 e.kind l in
      let b = le-leb e.kind 19 h in
      let d = le-leb e.kind 31 (omega arith) in
      let z = ne_eqb e.kind 10 (λ q. omega arith) in
      let k = is_true (remote_fields e) f in
      by_cases (eqb (sort_of e) sort) (λ s. simp (z, a, b, d, s, k)) (λ s. simp (z, a, b, d, s, k))

  pub moment_invoked : 20 ≤ e.kind → e.kind ≤ 23 → T (remote_fields e) → moment_of r e identifier sort ≡ pass
  moment_invoked l h f =
      let a = le-leb 16 e.kind (omega arith) in
      let b = lt-leb e.kind 19 (omega arith) in
      let d = le-leb e.kind 31 (omega arith) in
      let g = le-leb e.kind 23 h in
      let y = le-leb 20 e.kind l in
      let z = ne_eqb e.kind 10 (λ q. omega arith) in
      let k = is_true (remote_fields e) f in
      by_cases (eqb (sort_of e) sort) (λ s. simp (z, a, b, d, g, y, s, k)) (λ s. simp (z, a, b, d, g, y, s, k))

  pub moment_replied : 24 ≤ e.kind → e.kind ≤ 31 → T (remote_fields e)
      → moment_of r e identifier sort ≡ (when eqb (sort_of e) sort then (when leb e.kind 27 then result e.identifier else reject e.identifier) else pass)
  moment_replied l h f =
      let a = le-leb 16 e.kind (omega arith) in
      let b = lt-leb e.kind 19 (omega arith) in
      let d = le-leb e.kind 31 h in
      let g = lt-leb e.kind 23 (omega arith) in
      let y = le-leb 24 e.kind l in
      let z = ne_eqb e.kind 10 (λ q. omega arith) in
      let k = is_true (remote_fields e) f in
      by_cases (eqb (sort_of e) sort) (λ s. simp (z, a, b, d, g, y, s, k, and_false)) (λ s. simp (z, a, b, d, g, y, s, k))

module _ (r : Remote) (e : Event) (identifier sort : ℕ) (small : sort < 4) where
  abbrev Same : Type 0
  Same =
      pending_of sort (step r e identifier).remote.pending
      ≡ after (length_of sort) e.time (pending_of sort r.pending) (moment_of r e identifier sort)

  at_clock : T (clock e) → Same
  unfolding lapse
  at_clock c =
      rw (step_clocks r e identifier c, is_true (clock e) c)
      (by_cases (eqb (first_due e.time r.pending) sort)
      (λ s.
      let f = eqb-true (first_due e.time r.pending) sort s in
      let n : eqb sort 4 ≡ false = ne_eqb sort 4 (λ z. omega arith) in
      simp (f, n, eq-eqb sort sort refl, is_true (due (length_of sort) e.time (pending_of sort r.pending)) (first_is_due e.time r.pending sort small f), put_here idle r.pending sort small))
      (λ s.
      by_cases (eqb (first_due e.time r.pending) 4) (λ n. simp (n, s)) (λ n.
      let l : first_due e.time r.pending < 4 = below_four (first_due e.time r.pending) (first_small e.time r.pending) n in
      simp (n, s, put_there idle r.pending (first_due e.time r.pending) l sort small (λ z. eqb-false (first_due e.time r.pending) sort s (sym z))))))

  -- the step puts a request at the event's sort where a test holds, and leaves the others; to that sort the event is a moment
  at_sort : (b : Bool) (p : Pending) (m : Moment) → (step r e identifier).remote.pending ≡ (when b then with_pending (sort_of e) p r.pending else r.pending)
      → ((length : ℕ) → (when b then p else its r e) ≡ after length e.time (its r e) m)
      → moment_of r e identifier sort ≡ (when eqb (sort_of e) sort then m else pass) → Same
  at_sort b p m d makes is =
      rw (d, is) (by_cases (eqb (sort_of e) sort)
      (λ c.
      let k = eqb-true (sort_of e) sort c in
      placed b (sort_of e) p r.pending sort (sort_small e) small true c ∙ makes (length_of sort)
      ∙ (rw c (ap (λ j. after (length_of sort) e.time (pending_of j r.pending) m) k)))
      (λ c. placed b (sort_of e) p r.pending sort (sort_small e) small false c ∙ (rw c)))

  pub each_timed' : Role e → Same
  each_timed' (clocks c) = at_clock c
  each_timed' (foreign c n) = rw (step_foreign r e identifier c n) (simp (c, n))
  each_timed' (asked l h f) =
      at_sort (not (waits (its r e))) (timed.asked identifier e.time) (ask identifier)
      (rw (step_asked r e identifier l h f) (by_cases (waits (its r e)) (λ w. simp w) (λ w. simp w)))
      (λ length. by_cases (waits (its r e)) (λ w. simp w) (λ w. simp w))
      (moment_asked r e identifier sort l h f)
  each_timed' (invoked l h f) =
      let m = moment_invoked r e identifier sort l h f in
      at_sort false idle pass
      (rw (step_invoked r e identifier l h f) (by_cases (accepts r e) (λ w. simp w) (λ w. simp w)))
      (λ length. refl)
      (by_cases (eqb (sort_of e) sort) (λ s. rw (m, s)) (λ s. rw (m, s)))
  each_timed' (replied l h f) =
      let m = when leb e.kind 27 then result e.identifier else reject e.identifier in
      at_sort (answers e.identifier (its r e)) idle m
      (rw (step_replied r e identifier l h f) (by_cases (answers e.identifier (its r e)) (λ w. simp w) (λ w. simp w)))
      (λ length. by_cases (leb e.kind 27) (λ w. simp w) (λ w. simp w))
      (moment_replied r e identifier sort l h f)

pub each_timed : EachTimed
each_timed r e identifier sort small = each_timed' r e identifier sort small (role e)

-- what is so of each moment that an event may be is so of what it is
moment_is : (P : Moment → Type 0) (c d n a v w : Bool) (i j : ℕ) → P timed.tick → P pass → (T (not n) → T a → P (ask i)) → P (result j) → P (reject j)
    → P (when c then (when d then timed.tick else pass) else when n then pass else when a then ask i else when v then pass else when w then result j else reject j)
moment_is P true true n a v w i j ticks passes asking results rejects = ticks
moment_is P true false n a v w i j ticks passes asking results rejects = passes
moment_is P false d true a v w i j ticks passes asking results rejects = passes
moment_is P false d false true v w i j ticks passes asking results rejects = asking tt tt
moment_is P false d false false true w i j ticks passes asking results rejects = passes
moment_is P false d false false false true i j ticks passes asking results rejects = results
moment_is P false d false false false false i j ticks passes asking results rejects = rejects

pub each_becomes : EachBecomes
each_becomes r e identifier sort small =
    let p = pending_of sort r.pending in
    let l = length_of sort in
    let P : Pending → Type 0 = Becomes r e identifier sort in
    let its_own = of_remote e && remote_fields e && eqb (sort_of e) sort in
    let answer : P (after l e.time p (result e.identifier)) = when_has P (answers e.identifier p) {x = idle} {y = p} (λ _. over) (λ _. stays) in
    rw (each_timed r e identifier sort small)
    (moment_is (λ m. P (after l e.time p m)) (clock e) (eqb (first_due e.time r.pending) sort) (not its_own) (asks e) (receives e) (results e) identifier e.identifier
    (when_has P (due l e.time p) {x = idle} {y = p} (λ _. over) (λ _. stays))
    stays
    (λ n a. when_has P (waits p) {x = p} {y = timed.asked identifier e.time} (λ _. stays)
    (λ _. begins a (eqb→eq (sort_of e) sort (and_r (of_remote e && remote_fields e) (eqb (sort_of e) sort) (not_not its_own n)))))
    answer answer)

pub waits_on : WaitsOn
waits_on r e identifier sort small w v =
    let p = pending_of sort r.pending in
    let m = moment_of r e identifier sort in
    let d = each_timed r e identifier sort small in
    d ∙ timed-laws.waits_on (length_of sort) e.time p m w (rw d at v)

-- a clock event here, by the first that is due
pub lapse_first : (time : ℕ) (r : Remote) (sort : ℕ) → sort < 4 → first_due time r.pending ≡ sort → lapse time r ≡ expired r sort
unfolding lapse
lapse_first time r sort small f = rw (f, ne_eqb sort 4 (λ z. omega arith))

pub lapse_none : (time : ℕ) (r : Remote) → first_due time r.pending ≡ 4 → lapse time r ≡ unmoved r
unfolding lapse
lapse_none time r f = rw f
