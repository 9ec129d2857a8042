-- How the station's own requests begin and end. Assumes nothing.
use Prim.Native.Nat.{ℕ, ◌≤◌, ◌<◌}
use native.Mathlib.Omega.{arith}
use mathlib.Core.Path.{◌≡◌, refl, sym, ◌∙◌}
use mathlib.Core.Bool.{false, ◌&&◌}
use mathlib.Core.List.{List}
use lib.Dec.{T, eqb, leb→le, T_not}
use lib.ListN.{length}
use borrow.Author.Tests.{le-leb}
use Rattle.ground.proofs.Bools.{and_l, and_r, and_i, is_true, from_true, from_false, eq→eqb, by_cases}
use Rattle.ground.proofs.Walks.{or_true}
use Rattle.ground.proofs.Lowest.{lowest_none, count_none, count_past}
use Rattle.event.specs.declared.Event.{Event}
use Rattle.event.specs.Kinds.{clock}
use Rattle.event.specs.Remote.{sorts, sort_of, asks, of_remote, remote_fields}
use Rattle.timed.specs.declared.Pending.{Pending}
use Rattle.timed.specs.Timed.{asked, waits}
use Rattle.call.specs.declared.Call.{Call}
use Rattle.call.specs.Record.{free_call}
use Rattle.call.specs.Incoming.{due}
use Rattle.remote.specs.Held.{pending_of, first_due}
use Rattle.remote.specs.Rules.{its, remote_refusal, taken}
use Rattle.remote.specs.Laws as far
use Rattle.remote.proofs.Held.{put_here}
use Rattle.remote.proofs.Roles.{sort_small, step_asked}
use Rattle.remote.proofs.Machine.{first_in_order, each_becomes, waits_on, lapse_first}
use Rattle.remote.proofs.Settled as settled
use Rattle.station.specs.declared.Station.{Station}
use Rattle.station.specs.Table.{identifier_for, place}
use Rattle.station.specs.Step.{Outcome}
use Rattle.station.specs.Demand1.{code_of}
use Rattle.station.specs.Demand2.{FarOpen, NothingDue}
use Rattle.station.specs.FarRequests.{FarAsks, FarBegun, FarBeginsOnly, FarSettles, FarForeign, FarEnded, FarEndsOnly, FirstFar, FarExpires, ClockEndsFar}
use Rattle.station.proofs.Numbers.{Passed}
use Rattle.station.proofs.Stepped.{Stepped, refuses, settles, moves, stepped}
use Rattle.station.proofs.Demand1.{code_refusal, refusal_stays}
use Rattle.station.proofs.Named.{clock_near, off_call}
use Rattle.station.proofs.Clocks.{clock_place, far_lapse}
use Rattle.station.proofs.Far.{moved, far_numbers}

asks_far : (e : Event) → T (asks e) → (16 ≤ e.kind) × (e.kind ≤ 19) × T (of_remote e)
asks_far e t =
    let a : 16 ≤ e.kind = search (and_l, leb→le) in
    let b : e.kind ≤ 19 = search (and_r, leb→le) in
    (a, b, simp (le-leb 16 e.kind a, le-leb e.kind 31 (omega arith)) tt)

-- it is not asked already
free_sort : (s : Station) (calls : List Call) (e : Event) → T (asks e) → Passed s calls e → waits (its s.remote e) ≡ false
free_sort s calls e t p =
    by_cases (waits (its s.remote e)) (λ w. absurd (T_not (asks e && waits (its s.remote e)) p.unasked (and_i (asks e) (waits (its s.remote e)) t (from_true (waits (its s.remote e)) w)))) (λ w. w)

pub far_asks : FarAsks
far_asks s calls e t z =
    let (a, b, o) = asks_far e t in
    let m = moved (stepped s calls e) o z in
    let k = identifier_for s calls in
    let f = step_asked s.remote e k a b m.fields in
    rw (m.leaves, f, free_sort s calls e t m.passed)
    (record {
      request = put_here (asked k e.time) s.remote.pending (sort_of e) (sort_small e);
      next = simp (is_true (asks e) t, or_true);
      identifier = refl;
      sent = refl;
    })

-- how it begins: by what an event leaves of the request of a sort
begun_of : (s : Station) (calls : List Call) (e : Event) (sort k : ℕ) {q : Pending} → far.Becomes s.remote e (identifier_for s calls) sort q → code_of s calls e ≡ 0
    → (FarOpen s sort k → ⊥) → sort < sorts → T (waits q) → q.identifier ≡ k → FarBegun s calls e sort k
begun_of s calls e sort k far.stays z f l w b = absurd (f (record { small = l; asked = w; bears = b }))
begun_of s calls e sort k far.over z f l w b = absurd w
begun_of s calls e sort k (far.begins a h) z f l w b = record { done = z; kind = a; here = h; drawn = sym b }

begins : {s : Station} {calls : List Call} {e : Event} {o : Outcome} (sort k : ℕ) → Stepped s calls e o → (FarOpen s sort k → ⊥) → FarOpen o.station sort k
    → FarBegun s calls e sort k
begins sort k (refuses n q) f a = absurd (f a)
begins sort k (settles p r l) f a = absurd (f (record { small = a.small; asked = a.asked; bears = a.bears }))
begins {s} {calls} {e} sort k (moves p l) f a =
    begun_of s calls e sort k (each_becomes s.remote e (identifier_for s calls) sort a.small) (code_refusal s calls e ∙ p.number) f a.small a.asked a.bears

pub far_begins_only : FarBeginsOnly
far_begins_only s calls e sort k f a = begins sort k (stepped s calls e) f a

pub far_settles : FarSettles
far_settles s calls e t z =
    let l : 24 ≤ e.kind = search (and_l, leb→le) in
    let h : e.kind ≤ 31 = search (and_r, leb→le) in
    let o : T (of_remote e) = simp (le-leb 16 e.kind (omega arith), le-leb e.kind 31 h) tt in
    let m = moved (stepped s calls e) o z in
    let p = m.passed in
    let n = far_numbers s calls e p.whole p.timely o m.fields in
    let y : T (eqb (remote_refusal s.remote e) 0) = eq→eqb (remote_refusal s.remote e) 0 (sym n ∙ z) in
    let k : T (taken s.remote e) = and_i (of_remote e && remote_fields e) (eqb (remote_refusal s.remote e) 0) (and_i (of_remote e) (remote_fields e) o m.fields) y in
    let x = identifier_for s calls in
    rw m.leaves (record { settled = settled.settles s.remote e x t k; answer = rw (settled.step_over s.remote e x t k) })

pub far_foreign : FarForeign
far_foreign s calls e t n =
    let d : code_of s calls e ≡ 0 → ⊥ = λ z.
    let x = (far_settles s calls e t z).settled in
    n (record { small = sort_small e; asked = x.waited; bears = x.bears }) in
    let r = refusal_stays s calls e d in
    record { refused = d; station = r.station; calls = r.calls }

-- a clock event that acts on no record finds none of them due
none_near : (calls : List Call) (e : Event) → T (clock e) → length calls ≤ place calls e → NothingDue e.time calls
none_near calls e t l =
    count_none (due e.time) free_call calls tt (count_past (due e.time) calls (rw (clock_place calls e t) at l))

ended_of : {s : Station} {calls : List Call} {e : Event} {o : Outcome} (sort k : ℕ) → Stepped s calls e o → FarOpen s sort k → (FarOpen o.station sort k → ⊥)
    → FarEnded s calls e sort
ended_of sort k (refuses n q) a f = absurd (f a)
ended_of sort k (settles p r l) a f = absurd (f (record { small = a.small; asked = a.asked; bears = a.bears }))
ended_of {s} {calls} {e} {o} sort k (moves p l) a f =
    let x = identifier_for s calls in
    let w = waits (pending_of sort o.station.remote.pending) in
    record {
      done = code_refusal s calls e ∙ p.number;
      way = by_cases w
          (λ y.
          let v = from_true w y in
          absurd (f (record { small = a.small; asked = v; bears = rw (waits_on s.remote e x sort a.small a.asked v) a.bears })))
          (λ n. settled.ends_only s.remote e x sort a.small a.asked (from_false w n));
      near = λ t. none_near calls e t (off_call calls e l (clock_near e t));
    }

pub far_ends_only : FarEndsOnly
far_ends_only s calls e sort k a f = ended_of sort k (stepped s calls e) a f

-- the first that is due, as the clock finds it
first_far : (time : ℕ) (s : Station) (sort : ℕ) → FirstFar time s sort → first_due time s.remote.pending ≡ sort
first_far time s sort f = first_in_order time s.remote.pending sort f.there f.due f.earlier

expires_of : {s : Station} {calls : List Call} {e : Event} {o : Outcome} (sort : ℕ) → Stepped s calls e o → o.answer.code ≡ 0 → T (clock e) → length calls ≤ place calls e
    → sort < sorts → first_due e.time s.remote.pending ≡ sort → FarExpires s calls sort o
expires_of sort (refuses n q) z t l h f = absurd (omega (arith, z))
expires_of sort (settles p r m) z t l h f = absurd (omega arith)
expires_of {s} {calls} {e} sort (moves p m) z t l h f =
    rw (far_lapse s calls e t, lapse_first e.time s.remote sort h f)
    (record { call = refl; identifier = refl; sent = refl; remote = refl; calls = refl })

pub clock_ends_far : ClockEndsFar
clock_ends_far s calls e sort t z n f =
    let l = lowest_none (due e.time) free_call calls n in
    expires_of sort (stepped s calls e) z t (rw (clock_place calls e t) l) f.there (first_far e.time s sort f)
