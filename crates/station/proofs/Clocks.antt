-- A clock event ends the lowest request that is due, and sixty-eight leave none. Assumes nothing.
use Prim.Native.Nat.{ℕ, zero, suc, ◌+◌, ◌-◌, ◌≤◌, ◌<◌}
use native.Mathlib.Nat.{le_refl}
use native.Mathlib.Omega.{arith}
use mathlib.Core.Path.{◌≡◌, refl, ◌∙◌}
use mathlib.Core.List.{List}
use lib.Dec.{T, eqb→eq, leb→le, T_not}
use lib.ListN.{length, replicate}
use borrow.Author.Tests.{le-ltb}
use Rattle.ground.specs.Lists.{first}
use Rattle.ground.proofs.Bools.{is_true}
use Rattle.event.specs.declared.Event.{Event}
use Rattle.event.specs.Kinds.{clock}
use Rattle.event.specs.WellMade.{well_made}
use Rattle.call.specs.declared.Call.{Call}
use Rattle.call.specs.declared.Effect.{Effect}
use Rattle.call.specs.Record.{free_call}
use Rattle.call.specs.State.{basic_forbids, state_forbids}
use Rattle.call.specs.Incoming.{due, idle, expired}
use Rattle.call.specs.Act.{act}
use Rattle.timed.specs.Timed.{due_now, no_timer}
use Rattle.timed.proofs.Timers.{tick_count}
use Rattle.remote.specs.Held.{timers_of, first_due}
use Rattle.remote.specs.Rules.{lapse}
use Rattle.remote.proofs.Held.{timers_at}
use Rattle.remote.proofs.Roles.{step_clocks}
use Rattle.remote.proofs.Machine.{first_is_due, first_small, lapse_none}
use Rattle.remote.proofs.Sound.{lapse_ticks}
use Rattle.station.specs.declared.Station.{Station}
use Rattle.station.specs.Table.{at, sound, identifier_for, place}
use Rattle.station.specs.Refusals.{refusal_on_sound, refusal}
use Rattle.station.specs.Step.{Outcome, effect_at, done_at, far_moved, step, Ran, run_step, run_on, run}
use Rattle.station.specs.Demand1.{code_of}
use Rattle.station.specs.Demand2.{Expires, ClockEnds, far_due, NothingFar, Passes, ClockPasses, Cleared, SixtyEight}
use Rattle.station.proofs.Stepped.{Stepped, refuses, settles, moves, stepped}
use Rattle.station.proofs.Demand1.{code_refusal, done_passed, done_timed}
use Rattle.ground.proofs.Lowest.{count, lowest_is, lowest_none, count_none, count_length, count_lowest, count_past, count_some}
use Rattle.station.proofs.Whole.{whole}
use Rattle.station.proofs.Kept.{step_sound}
use Rattle.station.proofs.Named.{clock_near, off_call}

abbrev kind_of : (e : Event) → T (clock e) → e.kind ≡ 10
kind_of e t = eqb→eq e.kind 10 t

-- where a clock event acts, and what it does there
pub clock_place : (calls : List Call) (e : Event) → T (clock e) → place calls e ≡ first (due e.time) calls
clock_place calls e t = rw (kind_of e t)

clock_act : (c : Call) (e : Event) (k : ℕ) → T (clock e) → act c e k ≡ expired c
unfolding act
clock_act c e k t = rw (kind_of e t)

expired_there : (s : Station) (calls : List Call) (e : Event) (i j : ℕ) (x : Effect) → x ≡ expired (at calls j) → j ≡ i → Expires s calls i (done_at s calls e j x)
expired_there s calls e i j x q h = record { call = h; identifier = rw (q, h); calls = rw (q, h); remote = refl }

expires : {s : Station} {calls : List Call} {e : Event} {o : Outcome} (i : ℕ) → Stepped s calls e o → o.answer.code ≡ 0 → T (clock e)
    → i < length calls → place calls e ≡ i → Expires s calls i o
expires i (refuses n q) z t l h = absurd (omega (arith, z))
expires {s} {calls} {e} i (settles p r m) z t l h =
    expired_there s calls e i (place calls e) (effect_at s calls e (place calls e)) (clock_act (at calls (place calls e)) e (identifier_for s calls) t) h
expires {s} {calls} {e} i (moves p m) z t l h = let o = off_call calls e m (clock_near e t) in absurd (omega arith)

pub clock_ends : ClockEnds
clock_ends s calls e i t z d =
    let h = clock_place calls e t ∙ lowest_is (due e.time) free_call calls i d.there d.passes d.lower in
    expires i (stepped s calls e) z t d.there h

-- with no T1 request due, the station's own go on
pub far_lapse : (s : Station) (calls : List Call) (e : Event) → T (clock e) → far_moved s calls e ≡ lapse e.time s.remote
far_lapse s calls e t = step_clocks s.remote e (identifier_for s calls) t

passes_of : {s : Station} {calls : List Call} {e : Event} {o : Outcome} → Stepped s calls e o → o.answer.code ≡ 0 → T (clock e) → length calls ≤ place calls e
    → first_due e.time s.remote.pending ≡ 4 → Passes s calls o
passes_of (refuses n q) z t l f = absurd (omega (arith, z))
passes_of (settles p r m) z t l f = absurd (omega arith)
passes_of {s} {calls} {e} (moves p m) z t l f =
    rw (far_lapse s calls e t, lapse_none e.time s.remote f) (record { answer = refl; remote = refl; calls = refl })

-- where none of the four is due, the first that is lies past them
far_past : (time : ℕ) (s : Station) → NothingFar time s → first_due time s.remote.pending ≡ 4
far_past time s n =
    let q = s.remote.pending in
    let i = first_due time q in
    let b = first_small time q in
    let a : i < 4 → ⊥ = λ h. T_not (far_due time s i) (n i h) (first_is_due time q i h refl) in
    omega arith

pub clock_passes : ClockPasses
clock_passes s calls e t z n m =
    let l = lowest_none (due e.time) free_call calls n in
    passes_of (stepped s calls e) z t (rw (clock_place calls e t) l) (far_past e.time s m)

-- how many are due of both
abbrev total : ℕ → Station → List Call → ℕ
total time s calls = count (due time) calls + count (due_now time) (timers_of s.remote.pending)

-- one fewer is due
counted_down : {s : Station} {calls : List Call} {e : Event} {o : Outcome} → Stepped s calls e o → o.answer.code ≡ 0 → T (clock e)
    → total e.time o.station o.calls ≡ total e.time s calls - 1
counted_down (refuses n q) z t = absurd (omega (arith, z))
counted_down {s} {calls} {e} (settles p r l) z t =
    let d = due e.time in
    let i = first d calls in
    let h = clock_place calls e t in
    let c = (expired_there s calls e i (place calls e) (effect_at s calls e (place calls e)) (clock_act (at calls (place calls e)) e (identifier_for s calls) t) h).calls in
    let a = count_lowest d calls (idle (at calls i)) tt in
    let b = count_some d calls (rw h at l) in
    rw c (omega arith)
counted_down {s} {calls} {e} (moves p m) z t =
    let d = due e.time in
    let l : length calls ≤ first d calls = rw (clock_place calls e t) at (off_call calls e m (clock_near e t)) in
    let n = count_past d calls l in
    let k = tick_count e.time (timers_of s.remote.pending) in
    rw (far_lapse s calls e t, lapse_ticks e.time s.remote) (omega arith)

clock_count : (s : Station) (calls : List Call) (e : Event) → code_of s calls e ≡ 0 → T (clock e)
    → total e.time (step s calls e).station (step s calls e).calls ≡ total e.time s calls - 1
clock_count s calls e z t = counted_down (stepped s calls e) z t

-- a clock event is done wherever the table is sound and its time has not passed
clock_done : (s : Station) (calls : List Call) (e : Event) → T (clock e) → T (well_made e) → T (sound s calls) → s.last ≤ e.time → code_of s calls e ≡ 0
unfolding refusal refusal_on_sound basic_forbids state_forbids
clock_done s calls e t m h l =
    code_refusal s calls e ∙ rw (is_true (sound s calls) h, le-ltb e.time s.last l, is_true (well_made e) m, kind_of e t)

module _ (e : Event) (t : T (clock e)) (m : T (well_made e)) where
  -- so many in a row
  clocks : (n : ℕ) (r : Ran) → T (sound r.station r.calls) → r.station.last ≤ e.time
      → ((run_on r (replicate n e)).done ≡ r.done + n) × ((run_on r (replicate n e)).refused ≡ r.refused)
      × (total e.time (run_on r (replicate n e)).station (run_on r (replicate n e)).calls ≡ total e.time r.station r.calls - n)
  unfolding run_on
  clocks zero r h l = (omega arith, refl, omega arith)
  clocks (suc n) r h l =
      let s = r.station in
      let calls = r.calls in
      let z = clock_done s calls e t m h l in
      let g = done_timed s calls e z in
      let (a, b, c) = clocks n (run_step r e) (step_sound s calls e h) (rw g.last (le_refl e.time)) in
      let d = clock_count s calls e z t in
      let f : (run_step r e).done ≡ r.done + 1 = rw z in
      let k : (run_step r e).refused ≡ r.refused = rw z in
      (omega arith, b ∙ k, omega arith)

  pub cleared : (s : Station) (calls : List Call) → T (sound s calls) → s.last ≤ e.time → Cleared e.time 68 (run s calls (replicate 68 e))
  cleared s calls h l =
      let p = due e.time in
      let q = due_now e.time in
      let r = run s calls (replicate 68 e) in
      let (a, b, c) = clocks 68 (record { done = 0; refused = 0; station = s; calls = calls }) h l in
      let n : length calls ≤ 64 = leb→le (length calls) 64 (whole s calls h).few in
      let m = count_length p calls in
      let o : count q (timers_of s.remote.pending) ≤ 4 = count_length q (timers_of s.remote.pending) in
      let z : count p r.calls ≡ 0 = omega arith in
      let y : count q (timers_of r.station.remote.pending) ≡ 0 = omega arith in
      record {
        done = a;
        refused = b;
        none = count_none p free_call r.calls tt z;
        far_none = λ sort small. rw (timers_at r.station.remote.pending sort small) at (count_none q no_timer (timers_of r.station.remote.pending) tt y sort);
      }

pub sixty_eight : SixtyEight
sixty_eight s calls e t z = let p = done_passed s calls e z in cleared e t p.made s calls p.whole p.timely
