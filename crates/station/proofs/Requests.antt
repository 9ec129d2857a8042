-- The open requests of a station and its table by their places, and the identifier that the next one takes. Assumes nothing.
use Prim.Native.Nat.{ℕ, ◌≤◌, ◌<◌}
use native.Mathlib.Omega.{arith}
use mathlib.Core.Path.{◌≡◌, refl}
use mathlib.Core.Bool.{true, false, not}
use mathlib.Core.List.{List, [], ◌∷◌, ◌++◌}
use lib.Dec.{T, eqb, eqb→eq, leb→le, T_not, not_T}
use lib.ListN.{length, set, length-append}
use Rattle.ground.specs.Choice.{when◌then◌else◌}
use Rattle.ground.proofs.Bools.{eq→eqb}
use Rattle.ground.proofs.Lowest.{within}
use Rattle.identifier.specs.Identifier.{taken, distinct}
use Rattle.identifier.proofs.Pigeon.{crowded}
use Rattle.identifier.proofs.Draw as draw
use Rattle.identifier.proofs.Joined.{taken_left, taken_right, distinct_left, distinct_right, distinct_joined, parts_apart}
use Rattle.identifier.proofs.Holders as holders
use Rattle.timed.specs.declared.Pending.{Pending}
use Rattle.timed.specs.Timed.{waits, Timer, waiting, no_timer, identifiers_of}
use Rattle.call.specs.declared.Call.{Call}
use Rattle.call.specs.Record.{free_call, requested}
use Rattle.remote.specs.declared.Pendings.{Pendings}
use Rattle.remote.specs.Kinds.{length_of}
use Rattle.remote.specs.Held.{with_pending, timers_of}
use Rattle.remote.proofs.Held.{timers_at, timers_put}
use Rattle.station.specs.declared.Station.{Station}
use Rattle.station.specs.Table.{requests_of, open_identifiers, sound, identifier_for}
use Rattle.station.specs.Demand2.{Open, FarOpen, Apart, DistinctReads, SoundApart, SoundDraws, DrawnThere}
use Rattle.station.proofs.Whole.{whole}

-- both tables as lists of holders
abbrev id_of : Call → ℕ
id_of c = c.identifier

abbrev far_id : Timer → ℕ
far_id t = t.request.identifier

none : requests_of [] ≡ []
unfolding requests_of
none = refl

joins : (c : Call) (rest : List Call) → requests_of (c ∷ rest) ≡ holders.own_of requested id_of c ++ requests_of rest
unfolding requests_of
joins c rest =
    elim (requested c) as (λ b. (when b then c.identifier ∷ requests_of rest else requests_of rest) ≡ (when b then c.identifier ∷ [] else []) ++ requests_of rest)
    [ true ↦ refl | false ↦ refl ]

far_none_lem : identifiers_of [] ≡ []
unfolding identifiers_of
far_none_lem = refl

far_joins : (t : Timer) (rest : List Timer) → identifiers_of (t ∷ rest) ≡ holders.own_of waiting far_id t ++ identifiers_of rest
unfolding identifiers_of
far_joins t rest = refl

abbrev Near : List Call → ℕ → ℕ → Type 0
Near calls i k = holders.Holds requested id_of free_call calls i k

abbrev Far : Pendings → ℕ → ℕ → Type 0
Far p i k = holders.Holds waiting far_id no_timer (timers_of p) i k

near : (calls : List Call) (i k : ℕ) → Open calls i k → Near calls i k
near calls i k o = record { within = within requested free_call calls i tt o.asked; asked = o.asked; bears = o.bears }

near_open : (calls : List Call) (i k : ℕ) → Near calls i k → Open calls i k
near_open calls i k o = record { asked = o.asked; bears = o.bears }

far : (s : Station) (i k : ℕ) → FarOpen s i k → Far s.remote.pending i k
far s i k o =
    let e = timers_at s.remote.pending i o.small in
    record { within = o.small; asked = rw e o.asked; bears = rw e o.bears }

far_open : (s : Station) (i k : ℕ) → Far s.remote.pending i k → FarOpen s i k
far_open s i k o =
    let e = timers_at s.remote.pending i o.within in
    record { small = o.within; asked = rw e at o.asked; bears = rw e at o.bears }

-- the two parts of the open identifiers
abbrev far_ids : Station → List ℕ
far_ids s = identifiers_of (timers_of s.remote.pending)

pub near_taken : (calls : List Call) (i k : ℕ) → Open calls i k → T (taken (requests_of calls) k)
near_taken calls i k o = holders.taken_at requested id_of requests_of none joins free_call calls i k (near calls i k o)

pub far_taken : (s : Station) (i k : ℕ) → FarOpen s i k → T (taken (far_ids s) k)
far_taken s i k o = holders.taken_at waiting far_id identifiers_of far_none_lem far_joins no_timer (timers_of s.remote.pending) i k (far s i k o)

pub taken_at : (s : Station) (calls : List Call) (i k : ℕ) → Open calls i k → T (taken (open_identifiers s calls) k)
taken_at s calls i k o = taken_left (requests_of calls) (far_ids s) k (near_taken calls i k o)

pub apart_of : (s : Station) (calls : List Call) → T (distinct (open_identifiers s calls)) → Apart s calls
apart_of s calls d = record {
  near = λ i j k a b. holders.apart_of requested id_of requests_of none joins free_call calls (distinct_left (requests_of calls) (far_ids s) d) i j k (near calls i k a) (near calls j k b);
  far = λ i j k a b. holders.apart_of waiting far_id identifiers_of far_none_lem far_joins no_timer (timers_of s.remote.pending) (distinct_right (requests_of calls) (far_ids s) d) i j k (far s i k a) (far s j k b);
  between = λ i j k a b. parts_apart (requests_of calls) (far_ids s) d k (near_taken calls i k a) (far_taken s j k b);
}

pub distinct_of : (s : Station) (calls : List Call) → Apart s calls → T (distinct (open_identifiers s calls))
distinct_of s calls a =
    distinct_joined (requests_of calls) (far_ids s)
    (holders.distinct_of requested id_of requests_of none joins free_call calls (λ i j k x y. a.near i j k (near_open calls i k x) (near_open calls j k y)))
    (holders.distinct_of waiting far_id identifiers_of far_none_lem far_joins no_timer (timers_of s.remote.pending) (λ i j k x y. a.far i j k (far_open s i k x) (far_open s j k y)))
    (λ k t u.
    let (i, x) = holders.place_of_lem requested id_of requests_of none joins free_call calls k t in
    let (j, y) = holders.place_of_lem waiting far_id identifiers_of far_none_lem far_joins no_timer (timers_of s.remote.pending) k u in
    a.between i j k (near_open calls i k x) (far_open s j k y))

pub distinct_reads : DistinctReads
distinct_reads s calls = (apart_of s calls, distinct_of s calls)

pub sound_apart : SoundApart
sound_apart s calls h = apart_of s calls (whole s calls h).apart

-- a record is stored whose request, if it has one, bears an identifier that no open request has
pub requests_set : (s : Station) (calls : List Call) (i : ℕ) (x : Call) → i < length calls → T (distinct (open_identifiers s calls))
    → (T (requested x) → T (taken (open_identifiers s calls) x.identifier) → ⊥) → T (distinct (open_identifiers s (set calls i x)))
requests_set s calls i x l d f = holders.stored_before requested id_of requests_of none joins free_call (far_ids s) calls i x l d f

-- and so a request of the station
pub far_set : (s : Station) (calls : List Call) (sort : ℕ) (p : Pending) → sort < 4 → T (distinct (open_identifiers s calls))
    → (T (waits p) → T (taken (open_identifiers s calls) p.identifier) → ⊥)
    → T (distinct (requests_of calls ++ identifiers_of (timers_of (with_pending sort p s.remote.pending))))
far_set s calls sort p l d f =
    rw (timers_put p s.remote.pending sort l)
    (holders.stored_behind waiting far_id identifiers_of far_none_lem far_joins no_timer (requests_of calls) (timers_of s.remote.pending) sort
    (record { length = length_of sort; request = p }) l d f)

-- at most 64 and 4
open_length : (s : Station) (calls : List Call) → length calls ≤ 64 → length (open_identifiers s calls) ≤ 68
open_length s calls l =
    let a = holders.gathered_length requested id_of requests_of none joins free_call calls in
    let b : length (far_ids s) ≤ 4 = holders.gathered_length waiting far_id identifiers_of far_none_lem far_joins no_timer (timers_of s.remote.pending) in
    rw (length-append (requests_of calls) (far_ids s)) (omega arith)

pub sound_draws : SoundDraws
sound_draws s calls h =
    let held = open_identifiers s calls in
    let few : length held ≤ 68 = open_length s calls (leb→le (length calls) 64 (whole s calls h).few) in
    let f = draw.first held s.next few in
    let n : 69 ≤ f.steps → ⊥ = λ l. let c = crowded 69 s.next held (omega arith) (λ i g. f.before i (omega arith)) in omega arith in
    record {
      first = f;
      near = omega arith;
      free = λ i o. f.free (taken_at s calls i (identifier_for s calls) o);
      far_free = λ i o. f.free (taken_right (requests_of calls) (far_ids s) (identifier_for s calls) (far_taken s i (identifier_for s calls) o));
      only = λ k g. draw.only held s.next k few g;
    }

pub drawn_there : DrawnThere
drawn_there s calls h =
    draw.drawn_there (open_identifiers s calls) s.next (λ z. T_not (eqb s.next 0) (whole s calls h).next (eq→eqb s.next 0 z))

-- the same as a test
pub drawn_passes : (s : Station) (calls : List Call) → T (sound s calls) → T (not (eqb (identifier_for s calls) 0))
drawn_passes s calls h = not_T (eqb (identifier_for s calls) 0) (λ t. drawn_there s calls h (eqb→eq (identifier_for s calls) 0 t))
