-- What is held stays sound, and clock events leave nothing due. Assumes nothing.
use Prim.Native.Nat.{ℕ, zero, suc, ◌≤◌, ◌<◌}
use native.Mathlib.Omega.{arith}
use mathlib.Core.Path.{◌≡◌, refl, ap, ◌∙◌}
use lib.Dec.{T, eqb}
use borrow.Author.Tests.{eqb-true}
use Rattle.ground.proofs.Bools.{and_l, and_r, and_i, by_cases, when_has}
use Rattle.event.specs.declared.Event.{Event}
use Rattle.call.specs.Messages.{no_identifier}
use Rattle.timed.specs.declared.Pending.{Pending}
use Rattle.timed.specs.Timed.{asked as asking-as}
use Rattle.timed.specs.Timed.{idle, waits, answers, holds, after_tick, after_ticks}
use Rattle.timed.proofs.Laws.{idle_holds, asked_holds, holds_later}
use Rattle.timed.proofs.Timers.{ticks_clear}
use Rattle.remote.specs.declared.Pendings.{Pendings}
use Rattle.remote.specs.declared.Remote.{Remote}
use Rattle.remote.specs.declared.Moved.{Moved}
use Rattle.event.specs.Remote.{sort_of}
use Rattle.remote.specs.Held.{pending_of, with_pending, timers_of, first_due, pendings_hold, remote_holds}
use Rattle.remote.specs.Rules.{its, put, asking, accepts, received, agreed, declined, over, unmoved, lapse, step}
use Rattle.remote.specs.Laws.{StepHolds, lapses, FourClear}
use Rattle.remote.proofs.Held.{four, timers_put, timers_at}
use Rattle.remote.proofs.Roles.{Role, clocks, asked, invoked, replied, foreign, role, sort_small, step_clocks, step_foreign, step_asked, step_invoked, step_replied}
use Rattle.remote.proofs.Machine.{first_small, below_four}

-- another request in the place of a sort
puts_hold : (last : ℕ) (p : Pending) (q : Pendings) → T (holds last p) → T (pendings_hold last q) → (sort : ℕ) → sort < 4 → T (pendings_hold last (with_pending sort p q))
puts_hold last p q h g =
    four (λ sort. T (pendings_hold last (with_pending sort p q))) (search (and_l, and_r, and_i)) (search (and_l, and_r, and_i)) (search (and_l, and_r, and_i)) (search (and_l, and_r, and_i))

-- the request of each sort is sound
pub held_each : (last : ℕ) (r : Remote) → T (remote_holds last r) → (sort : ℕ) → sort < 4 → T (holds last (pending_of sort r.pending))
unfolding remote_holds
held_each last r h =
    four (λ sort. T (holds last (pending_of sort r.pending))) (search (and_l, and_r)) (search (and_l, and_r)) (search (and_l, and_r)) (search (and_l, and_r))

-- all under a later last time
pub held_later : (last time : ℕ) (r : Remote) → last ≤ time → T (remote_holds last r) → T (remote_holds time r)
unfolding remote_holds
held_later last time r l h =
    let q = r.pending in
    let a = holds_later last time q.activation l (search (and_l, and_r)) in
    let d = holds_later last time q.deactivation l (search (and_l, and_r)) in
    let i = holds_later last time q.interrogation l (search (and_l, and_r)) in
    let c = holds_later last time q.check l (search (and_l, and_r)) in
    search (and_l, and_r, and_i)

put_holds : (last sort : ℕ) (p : Pending) (r : Remote) → sort < 4 → T (holds last p) → T (remote_holds last r) → T (remote_holds last (put sort p r))
unfolding remote_holds
put_holds last sort p r s h g =
    let k = puts_hold last p r.pending h (search (and_l, and_r)) sort s in
    search (and_l, and_r, and_i)

module _ (last : ℕ) (r : Remote) (e : Event) (identifier : ℕ) (l : last ≤ e.time) (n : identifier ≡ 0 → ⊥) (g : T (remote_holds last r)) where
  abbrev Holds : Moved → Type 0
  Holds m = T (remote_holds e.time m.remote)

  later : T (remote_holds e.time r)
  later = held_later last e.time r l g

  over_holds : (sort identifier : ℕ) → sort < 4 → Holds (over r sort identifier)
  over_holds sort k s = put_holds e.time sort idle r s (idle_holds e.time) later

  -- the kept destinations are any
  received_holds : Holds (received r e)
  unfolding remote_holds
  received_holds = when_has Holds (accepts r e) {x = agreed r e} {y = declined r e} (λ _. later) (λ _. later)

  lapse_holds : Holds (lapse e.time r)
  unfolding lapse
  lapse_holds =
      by_cases (eqb (first_due e.time r.pending) 4) (λ z. rw z later)
      (λ z. rw z (over_holds (first_due e.time r.pending) no_identifier (below_four (first_due e.time r.pending) (first_small e.time r.pending) z)))

  steps_hold : Role e → Holds (step r e identifier)
  steps_hold (clocks c) = rw (step_clocks r e identifier c) lapse_holds
  steps_hold (foreign c f) = rw (step_foreign r e identifier c f) later
  steps_hold (asked a b f) =
      rw (step_asked r e identifier a b f)
      (when_has Holds (waits (its r e)) {x = unmoved r} {y = asking r e identifier} (λ _. later)
      (λ _. put_holds e.time (sort_of e) _ r (sort_small e) (asked_holds identifier e.time n) later))
  steps_hold (invoked a b f) = rw (step_invoked r e identifier a b f) received_holds
  steps_hold (replied a b f) =
      rw (step_replied r e identifier a b f)
      (when_has Holds (answers e.identifier (its r e)) {x = over r (sort_of e) no_identifier} {y = unmoved r} (λ _. over_holds (sort_of e) no_identifier (sort_small e)) (λ _. later))

pub step_holds : StepHolds
step_holds last r e identifier l n g = steps_hold last r e identifier l n g (role e)

-- a clock event here is one tick of the four
pub lapse_ticks : (time : ℕ) (r : Remote) → timers_of (lapse time r).remote.pending ≡ after_tick time (timers_of r.pending)
unfolding lapse
lapse_ticks time r =
    let q = r.pending in
    by_cases (eqb (first_due time q) 4)
    (λ z. rw (z, eqb-true (first_due time q) 4 z))
    (λ z.
    let s = below_four (first_due time q) (first_small time q) z in
    rw (z, timers_put idle q (first_due time q) s, timers_at q (first_due time q) s))

lapses_tick : (n time : ℕ) (r : Remote) → timers_of (lapses n time r).pending ≡ after_ticks n time (timers_of r.pending)
unfolding lapses after_ticks
lapses_tick zero time r = refl
lapses_tick (suc n) time r = lapses_tick n time (lapse time r).remote ∙ ap (after_ticks n time) (lapse_ticks time r)

pub four_clear : FourClear
four_clear time r sort s =
    let c = ticks_clear 4 time (timers_of r.pending) (omega arith) sort in
    rw (← lapses_tick 4 time r, timers_at (lapses 4 time r).pending sort s) at c

-- what an event does to the four: nothing, or one of them ends, or one begins with the identifier drawn
pub data Put (identifier : ℕ) (q : Pendings) : Pendings → Type 0 where
  stays : Put identifier q q
  ends : (sort : ℕ) → sort < 4 → Put identifier q (with_pending sort idle q)
  begins : (sort time : ℕ) → sort < 4 → Put identifier q (with_pending sort (asking-as identifier time) q)

module _ (r : Remote) (e : Event) (identifier : ℕ) where
  abbrev Puts : Moved → Type 0
  Puts m = Put identifier r.pending m.remote.pending

  lapse_puts : Puts (lapse e.time r)
  unfolding lapse
  lapse_puts =
      by_cases (eqb (first_due e.time r.pending) 4) (λ z. rw z stays)
      (λ z. rw z (ends (first_due e.time r.pending) (below_four (first_due e.time r.pending) (first_small e.time r.pending) z)))

  puts : Role e → Puts (step r e identifier)
  puts (clocks c) = rw (step_clocks r e identifier c) lapse_puts
  puts (foreign c f) = rw (step_foreign r e identifier c f) stays
  puts (asked a b f) =
      rw (step_asked r e identifier a b f)
      (when_has Puts (waits (its r e)) {x = unmoved r} {y = asking r e identifier} (λ _. stays) (λ _. begins (sort_of e) e.time (sort_small e)))
  puts (invoked a b f) =
      rw (step_invoked r e identifier a b f) (when_has Puts (accepts r e) {x = agreed r e} {y = declined r e} (λ _. stays) (λ _. stays))
  puts (replied a b f) =
      rw (step_replied r e identifier a b f)
      (when_has Puts (answers e.identifier (its r e)) {x = over r (sort_of e) no_identifier} {y = unmoved r} (λ _. ends (sort_of e) (sort_small e)) (λ _. stays))

pub step_puts : (r : Remote) (e : Event) (identifier : ℕ) → Put identifier r.pending (step r e identifier).remote.pending
step_puts r e identifier = puts r e identifier (role e)
