-- How the requests of the four sorts end, and what a result or error settles. Assumes nothing.
use Prim.Native.Nat.{ℕ, ◌≤◌}
use native.Mathlib.Omega.{arith}
use mathlib.Core.Path.{◌≡◌, refl, sym, ◌∙◌}
use lib.Dec.{T, leb, eqb, leb→le}
use borrow.Author.Tests.{le-leb, eq-eqb, eqb-true}
use Rattle.ground.proofs.Bools.{and_l, and_r, is_true, by_cases, when_has}
use Rattle.event.specs.declared.Event.{Event}
use Rattle.event.specs.Kinds.{clock}
use Rattle.call.specs.Messages.{no_identifier}
use Rattle.timed.specs.declared.Pending.{Pending}
use Rattle.timed.specs.Timed.{idle, waits, answers, Moment}
use Rattle.timed.specs.Laws.{Ending}
use Rattle.timed.proofs.Laws as timed
use Rattle.remote.specs.declared.Remote.{Remote}
use Rattle.remote.specs.declared.Moved.{Moved}
use Rattle.event.specs.Remote.{sort_of, answers_ours, remote_fields}
use Rattle.remote.specs.Kinds.{length_of}
use Rattle.remote.specs.Held.{pending_of, no_sort, first_due}
use Rattle.remote.specs.Rules.{its, remote_refusal, asking, accepts, agreed, declined, over, unmoved, expired, lapse, taken, step}
use Rattle.remote.specs.Laws.{moment_of, Ends, by_answer, by_expiry, EndsOnly, Settles, SettlesSilently, FirstExpires, AnsweredStillValid, ExpiredStillValid, MarksStay}
use Rattle.remote.proofs.Held.{put_here, put_there}
use Rattle.remote.proofs.Roles.{Role, clocks, asked, invoked, replied, foreign, role, sort_small, step_clocks, step_foreign, step_asked, step_invoked, step_replied}
use Rattle.remote.proofs.Machine.{moment_asked, moment_invoked, moment_replied, each_timed, lapse_first}

module _ (r : Remote) (e : Event) (identifier sort : ℕ) where
  p : Pending
  p = pending_of sort r.pending

  abbrev Told : Moment → Type 0
  Told m = timed.Tells (length_of sort) e.time (pending_of sort r.pending) m

  ends : Role e → Told (moment_of r e identifier sort) → Ends r e sort
  ends (clocks c) t =
      let u = rw (is_true (clock e) c) at t in
      by_cases (eqb (first_due e.time r.pending) sort)
      (λ s. by_expiry c (eqb-true (first_due e.time r.pending) sort s) (rw s at u)) (λ s. absurd (rw s at u))
  ends (foreign c n) t = absurd (simp (c, n) at t)
  ends (asked l h f) t =
      let u = rw (moment_asked r e identifier sort l h f) at t in
      by_cases (eqb (sort_of e) sort) (λ s. absurd (rw s at u)) (λ s. absurd (rw s at u))
  ends (invoked l h f) t = absurd (rw (moment_invoked r e identifier sort l h f) at t)
  ends (replied l h f) t =
      let u = rw (moment_replied r e identifier sort l h f) at t in
      let o : T (answers_ours e) = rw (le-leb 24 e.kind l, le-leb e.kind 31 h) tt in
      by_cases (eqb (sort_of e) sort)
      (λ s. by_cases (leb e.kind 27)
      (λ w. by_answer o (eqb-true (sort_of e) sort s) (rw (s, w) at u))
      (λ w. by_answer o (eqb-true (sort_of e) sort s) (rw (s, w) at u)))
      (λ s. absurd (rw s at u))

pub ends_only : EndsOnly
ends_only r e identifier sort small w n =
    let p = pending_of sort r.pending in
    let m = moment_of r e identifier sort in
    let d : Ending (length_of sort) e.time p m =
    timed.ends_only (length_of sort) e.time p m w (rw (each_timed r e identifier sort small) at n) in
    ends r e identifier sort (role e) (timed.tells (length_of sort) e.time p m d)

-- numbers 11 and 6 are not given: it waits, with that identifier
answered_its : (r : Remote) (e : Event) → T (answers_ours e) → T (eqb (remote_refusal r e) 0) → (T (waits (its r e))) × (e.identifier ≡ (its r e).identifier)
unfolding remote_refusal
answered_its r e a z =
    let t = is_true (answers_ours e) a in
    by_cases (waits (its r e))
    (λ w. by_cases (eqb e.identifier (its r e).identifier) (λ i. (rw w tt, eqb-true e.identifier (its r e).identifier i)) (λ i. absurd (simp (t, w, i) at z)))
    (λ w. absurd (simp (t, w) at z))

-- so the request of its sort is over
pub step_over : (r : Remote) (e : Event) (identifier : ℕ) → T (answers_ours e) → T (taken r e) → step r e identifier ≡ over r (sort_of e) no_identifier
step_over r e identifier a t =
    let z : T (eqb (remote_refusal r e) 0) = search (and_l, and_r) in
    let f : T (remote_fields e) = search (and_l, and_r) in
    let l : 24 ≤ e.kind = search (and_l, leb→le) in
    let h : e.kind ≤ 31 = search (and_l, and_r, leb→le) in
    let (w, i) = answered_its r e a z in
    step_replied r e identifier l h f ∙ rw (is_true (waits (its r e)) w, eq-eqb e.identifier (its r e).identifier i)

pub settles : Settles
settles r e identifier a t =
    let z : T (eqb (remote_refusal r e) 0) = search (and_l, and_r) in
    let (w, i) = answered_its r e a z in
    let k = sort_small e in
    rw (step_over r e identifier a t)
    (record {
      waited = w;
      bears = sym i;
      over = put_here idle r.pending (sort_of e) k;
      others = λ sort small n. put_there idle r.pending (sort_of e) k sort small n;
      kept = refl;
      enabled = refl;
      allowed = refl;
    })

pub settles_silently : SettlesSilently
settles_silently r e identifier a t = rw (step_over r e identifier a t) (record { message = refl; identifier = refl })

pub first_expires : FirstExpires
first_expires r e identifier sort small c f =
    rw (step_clocks r e identifier c, lapse_first e.time r sort small f) (record { remote = refl; message = refl; identifier = refl })

pub answered_still_valid : AnsweredStillValid
answered_still_valid r e identifier a s t = rw (step_over r e identifier a t, s) (record { same = refl; kept = refl })

pub expired_still_valid : ExpiredStillValid
expired_still_valid r e identifier c f =
    rw (first_expires r e identifier 3 (omega arith) c f).remote (record { same = refl; kept = refl })

module _ (r : Remote) (e : Event) (identifier : ℕ) where
  abbrev Marks : Moved → Type 0
  Marks m = (m.remote.enabled ≡ r.enabled) × (m.remote.allowed ≡ r.allowed)

  marks : Role e → Marks (step r e identifier)
  unfolding lapse
  marks (clocks c) =
      let sort = first_due e.time r.pending in
      rw (step_clocks r e identifier c) (when_has Marks (eqb sort no_sort) {x = unmoved r} {y = expired r sort} (λ _. (refl, refl)) (λ _. (refl, refl)))
  marks (foreign c n) = rw (step_foreign r e identifier c n) (refl, refl)
  marks (asked l h f) =
      rw (step_asked r e identifier l h f)
      (when_has Marks (waits (its r e)) {x = unmoved r} {y = asking r e identifier} (λ _. (refl, refl)) (λ _. (refl, refl)))
  marks (invoked l h f) =
      rw (step_invoked r e identifier l h f)
      (when_has Marks (accepts r e) {x = agreed r e} {y = declined r e} (λ _. (refl, refl)) (λ _. (refl, refl)))
  marks (replied l h f) =
      rw (step_replied r e identifier l h f)
      (when_has Marks (answers e.identifier (its r e)) {x = over r (sort_of e) no_identifier} {y = unmoved r} (λ _. (refl, refl)) (λ _. (refl, refl)))

pub marks_stay : MarksStay
marks_stay r e identifier = marks r e identifier (role e)
