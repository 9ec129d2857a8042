-- The record that a done event acts on: that of the call it names, or the lowest free one. Assumes nothing.
use Prim.Native.Nat.{ℕ, ◌≤◌, ◌<◌}
use native.Mathlib.Omega.{arith}
use mathlib.Core.Path.{◌≡◌, refl}
use mathlib.Core.Bool.{Bool, true, false, not, ◌&&◌, ◌||◌}
use mathlib.Core.List.{List}
use lib.Dec.{T, ltb, leb, leb→le, eqb→eq, nleb→lt, not_T, T_not}
use borrow.Author.Tests.{lt-leb, leb-true, leb-false, ltb-false, ne_eqb}
use lib.ListN.{length}
use Rattle.ground.specs.Lists.{first}
use Rattle.ground.proofs.Bools.{and_r, and_i, nor_l, is_true, is_false, from_true, by_cases}
use Rattle.ground.proofs.Walks.{and_false}
use Rattle.event.specs.declared.Event.{Event}
use Rattle.event.specs.Kinds.{opens, of_incoming, of_outgoing, clock, ends}
use Rattle.event.specs.Remote.{of_remote}
use Rattle.call.specs.declared.Call.{Call}
use Rattle.call.specs.State.{wrong_call}
use Rattle.call.specs.Record.{free_call, is_free}
use Rattle.call.proofs.Made.{Made, opens_outgoing, opens_incoming, opens_diverted, alerts, answers, diverts_call, results, rejects, leg_fails, clocks, ends_own, invokes, informs, messages, far_ends, made}
use Rattle.station.specs.declared.Station.{Station}
use Rattle.station.specs.Table.{at, place}
use Rattle.station.specs.Step.{Outcome, effect_at, done_at, on_call, step}
use Rattle.station.specs.Demand1.{code_of}
use Rattle.station.specs.Demand2.{Lowest, Names, DoneNames, OpenTakes}
use Rattle.station.proofs.Numbers.{Passed}
use Rattle.station.proofs.Kept.{call_made_lem}
use Rattle.station.proofs.Stepped.{Stepped, refuses, settles, moves, stepped}
use Rattle.ground.proofs.Lowest.{lowest_passes, lowest_lower}

-- "4 to 9, 15 incoming; 12 to 14 outgoing; 11 either"
abbrev pub names : Event → Bool
names e = of_incoming e || of_outgoing e || ends e

within : (s : Station) (calls : List Call) (e : Event) → T (names e) → Passed s calls e → e.call < length calls
within s calls e t p =
    let out = leb (length calls) e.call in
    let n : T (not (names e && out)) = nor_l (names e && out) (wrong_call (at calls e.call) e) p.named in
    nleb→lt (length calls) e.call (not_T out (λ o. T_not (names e && out) n (and_i (names e) out t o)))

-- kinds 16 to 31 neither name a call nor open one
near : (e : Event) → e.kind < 16 → T (not (of_remote e))
near e l = rw (lt-leb 16 e.kind l) tt

pub names_near : (e : Event) → T (names e) → T (not (of_remote e))
names_near e t =
    near e
    (leb-false 16 e.kind
    (by_cases (leb 16 e.kind)
    (λ y.
    let l = leb-true 16 e.kind y in
    absurd (simp (lt-leb e.kind 9 (omega arith), lt-leb e.kind 14 (omega arith), ne_eqb e.kind 15 (λ q. omega arith), ne_eqb e.kind 11 (λ q. omega arith), and_false) at t))
    (λ n. n)))

pub opens_near : (e : Event) → T (opens e) → T (not (of_remote e))
opens_near e t = let l : e.kind ≤ 3 = search (and_r, leb→le) in near e (omega arith)

pub clock_near : (e : Event) → T (clock e) → T (not (of_remote e))
clock_near e t = near e (rw (eqb→eq e.kind 10 t) (omega arith))

-- where a near event acts on no record, its place is past the table's end
pub off_call : (calls : List Call) (e : Event) → T (not (on_call calls e)) → T (not (of_remote e)) → length calls ≤ place calls e
off_call calls e n r = ltb-false (place calls e) (length calls) (is_false (ltb (place calls e) (length calls)) (rw (is_false (of_remote e) r) at n))

-- the record that it names is there, and this is what the event leaves
pub record Acts (s : Station) (calls : List Call) (e : Event) (o : Outcome) : Type 0 where
  pub passed : Passed s calls e
  pub there : e.call < length calls
  pub leaves : o ≡ done_at s calls e e.call (effect_at s calls e e.call)

acts : {s : Station} {calls : List Call} {e : Event} {o : Outcome} → Stepped s calls e o → T (names e) → place calls e ≡ e.call → o.answer.code ≡ 0 → Acts s calls e o
acts (refuses n q) t h z = absurd (omega (arith, z))
acts {s} {calls} {e} (settles p r l) t h z = record { passed = p; there = within s calls e t p; leaves = rw h }
acts {s} {calls} {e} (moves p l) t h z = let m = within s calls e t p in let o = off_call calls e l (names_near e t) in absurd (omega arith)

pub named_acts : (s : Station) (calls : List Call) (e : Event) → T (names e) → place calls e ≡ e.call → code_of s calls e ≡ 0 → Acts s calls e (step s calls e)
named_acts s calls e t h z = acts (stepped s calls e) t h z

-- "An open takes the lowest free record."
open_place : (calls : List Call) (e : Event) → T (opens e) → place calls e ≡ first is_free calls
open_place calls e t = rw (is_true (opens e) t)

open_within : (s : Station) (calls : List Call) (e : Event) → T (opens e) → Passed s calls e → first is_free calls < length calls
open_within s calls e t p =
    let full = leb (length calls) (first is_free calls) in
    nleb→lt (length calls) (first is_free calls) (not_T full (λ o. T_not (opens e && full) p.room (and_i (opens e) full t o)))

lowest_free : (calls : List Call) (i : ℕ) → i ≡ first is_free calls → first is_free calls < length calls → Lowest is_free calls i
lowest_free calls i h l = rw h (record { there = l; passes = lowest_passes is_free free_call calls l; lower = lowest_lower is_free free_call calls })

takes : {s : Station} {calls : List Call} {e : Event} {o : Outcome} → Stepped s calls e o → o.answer.code ≡ 0 → T (opens e) → Lowest is_free calls o.answer.call
takes (refuses n q) z t = absurd (omega (arith, z))
takes {s} {calls} {e} (settles p r l) z t = lowest_free calls (place calls e) (open_place calls e t) (open_within s calls e t p)
takes {s} {calls} {e} (moves p l) z t = let m = open_within s calls e t p in let h = open_place calls e t in let o = off_call calls e l (opens_near e t) in absurd (omega arith)

pub open_takes : OpenTakes
open_takes s calls e z t = takes (stepped s calls e) z t

-- the groups of the kinds
grouped : (e : Event) → Made e → T (not (clock e)) → T (opens e || names e)
grouped e (opens_outgoing k f) n = rw k tt
grouped e (opens_incoming k f) n = rw k tt
grouped e (opens_diverted k f) n = rw k tt
grouped e (alerts k f) n = rw k tt
grouped e (answers k f) n = rw k tt
grouped e (diverts_call k f) n = rw k tt
grouped e (results k f) n = rw k tt
grouped e (rejects k f) n = rw k tt
grouped e (leg_fails k f) n = rw k tt
grouped e (clocks k f) n = absurd (rw k at n)
grouped e (ends_own k f) n = rw k tt
grouped e (invokes k f) n = rw k tt
grouped e (informs k f) n = rw k tt
grouped e (messages k f) n = rw k tt
grouped e (far_ends k f) n = rw k tt

-- such an event has a record to act on
has_place : (s : Station) (calls : List Call) (e : Event) → Passed s calls e → T (not (clock e)) → T (not (of_remote e)) → place calls e < length calls
has_place s calls e p n r = go (opens e) refl (grouped e (made e (call_made_lem e r p.made)) n)
  where
    go : (b : Bool) → opens e ≡ b → T (b || names e) → place calls e < length calls
    go true q h = let t = from_true (opens e) q in rw (open_place calls e t) (open_within s calls e t p)
    go false q h = rw (q, is_false (clock e) n) (within s calls e h p)

names_of : {s : Station} {calls : List Call} {e : Event} {o : Outcome} → Stepped s calls e o → o.answer.code ≡ 0 → T (not (clock e)) → T (not (of_remote e)) → Names calls e o
names_of (refuses n q) z t r = absurd (omega (arith, z))
names_of (settles p _ l) z t r = record { there = l; call = refl }
names_of {s} {calls} {e} (moves p l) z t r = let m = has_place s calls e p t r in let o = off_call calls e l r in absurd (omega arith)

pub done_names : DoneNames
done_names s calls e z t r = names_of (stepped s calls e) z t r
