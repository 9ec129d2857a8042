-- How an open request ends: by a result, error or reject of its own, and by nothing else than the five ways. Assumes nothing.
use Prim.Native.Nat.{ℕ, ◌≤◌, ◌<◌}
use native.Mathlib.Decide.{ℕ_discrete}
use native.Mathlib.Omega.{arith}
use mathlib.Core.Path.{◌≡◌, refl, sym, ◌∙◌}
use mathlib.Core.Bool.{Bool, true, false, not, ◌||◌}
use mathlib.Core.Logic.{◌↔◌}
use mathlib.Core.Option.{some, none}
use mathlib.Core.List.{List}
use lib.Dec.{T, eqb, eqb→eq, leb→le, not_T}
use lib.ListN.{length, set}
use lib.Seq.{get_or-set_same, get_or-set_other}
use borrow.Author.Tests.{eqb-true, ne_eqb}
use Rattle.ground.proofs.Bools.{and_l}
use Rattle.ground.specs.Choice.{when◌then◌else◌}
use Rattle.ground.specs.Choice.{only as onlyWith}
use Rattle.event.specs.declared.Event.{Event}
use Rattle.event.specs.Kinds.{opens, answers_request, clock, ends}
use Rattle.event.specs.Remote.{of_remote}
use Rattle.call.specs.declared.Call.{Call}
use Rattle.call.specs.Record.{free_call, is_free, requested, granted}
use Rattle.call.specs.State.{state_forbids}
use Rattle.call.specs.Incoming.{act_incoming}
use Rattle.call.specs.Act.{act}
use Rattle.call.proofs.Denials.{denied}
use Rattle.call.proofs.Kept.{act_request}
use Rattle.call.proofs.Requests.{ends_request, request_ends, request_ended}
use Rattle.station.specs.declared.Station.{Station}
use Rattle.station.specs.Table.{at, identifier_for, place}
use Rattle.station.specs.Refusals.{refusal}
use Rattle.station.specs.Step.{Outcome, effect_at, step}
use Rattle.station.specs.Demand1.{code_of}
use Rattle.station.specs.Demand2.{Open, OutcomeSettles, ForeignStays, Begun, BeginsOnly, Ending, result, reject, expiry, answered, closed, ending_of, Ended, EndsOnly, EndsIndeed}
use Rattle.station.proofs.Numbers.{Passed}
use Rattle.station.proofs.Stepped.{Stepped, refuses, settles, moves, stepped}
use Rattle.station.proofs.Demand1.{code_refusal, refusal_stays}
use Rattle.station.proofs.Whole.{record_sound}
use Rattle.station.proofs.Places.{others_stay}
use Rattle.ground.proofs.Lowest.{lowest_passes, within}
use Rattle.station.proofs.Addressed.{addressed_there}
use Rattle.station.proofs.Named.{named_acts, off_call}
use Rattle.station.proofs.Kept.{call_made_lem}

-- "7, 8 callRerouting result; error or reject"
either : (e : Event) {P : Type 0} → T (answers_request e) → (e.kind ≡ 7 → P) → (e.kind ≡ 8 → P) → P
either e {P} t f g = go (eqb e.kind 7) refl t
  where
    go : (b : Bool) → eqb e.kind 7 ≡ b → T (b || eqb e.kind 8) → P
    go true q h = f (eqb-true e.kind 7 q)
    go false q h = g (eqb→eq e.kind 8 h)

-- "Both need Requested."
needed : (b : Bool) → T (not (not b || false)) → T b
needed true t = tt
needed false t = t

pub outcome_settles : OutcomeSettles
unfolding state_forbids act act_incoming
outcome_settles s calls e t z =
    let c = at calls e.call in
    let x = (act c e (identifier_for s calls)).call in
    let h : place calls e ≡ e.call = either e t (λ k. rw k) (λ k. rw k) in
    let a = named_acts s calls e (either e t (λ k. rw k tt) (λ k. rw k tt)) h z in
    let p = a.passed in
    let r : T (requested c) = either e t (λ k. needed (requested c) (rw k at p.taken)) (λ k. needed (requested c) (rw k at p.taken)) in
    let i : T (eqb e.identifier c.identifier) = denied (answers_request e) (eqb e.identifier c.identifier) p.identified t in
    let y : at (step s calls e).calls e.call ≡ x = rw a.leaves (get_or-set_same calls e.call x free_call a.there) in
    let n : T (not (requested x)) = either e t (λ k. rw k tt) (λ k. rw k tt) in
    let g : granted x ≡ eqb e.kind 7 = either e t (λ k. rw k) (λ k. rw k) in
    record {
      request = record { asked = r; bears = sym (eqb→eq e.identifier c.identifier i) };
      over = rw y n;
      grants = rw y g;
      others = λ j d. others_stay s calls e j (λ u. d (u ∙ h));
    }

pub foreign_stays : ForeignStays
foreign_stays s calls e t n =
    let d : code_of s calls e ≡ 0 → ⊥ = λ z. n (outcome_settles s calls e t z).request in
    let r = refusal_stays s calls e d in
    record { refused = d; station = r.station; calls = r.calls }

-- an open acts on a free record
opens_only : (calls : List Call) (e : Event) → place calls e < length calls → T (onlyWith (opens e) (is_free (at calls (place calls e))))
opens_only calls e l = go (opens e) refl
  where
    go : (b : Bool) → opens e ≡ b → T (onlyWith b (is_free (at calls (place calls e))))
    go true q = rw q (lowest_passes is_free free_call calls (rw q at l))
    go false q = tt

-- it is an event that ends requests, and it has ended
pub record Ends (s : Station) (calls : List Call) (e : Event) : Type 0 where
  pub kind : T (ends_request e)
  pub over : T (not (requested (effect_at s calls e (place calls e)).call))

ends_there : (s : Station) (calls : List Call) (e : Event) → Passed s calls e → T (not (of_remote e)) → place calls e < length calls → T (requested (at calls (place calls e))) → Ends s calls e
ends_there s calls e p m l r =
    let c = at calls (place calls e) in
    let h = record_sound s calls p.whole (place calls e) l in
    let (a, b) = addressed_there s calls e p in
    record {
      kind = request_ends s.last c e h r (call_made_lem e m p.made) (opens_only calls e l) a b;
      over = request_ended s.last (identifier_for s calls) c e h p.timely r (call_made_lem e m p.made) a b;
    }

-- the ending that such a kind brings
way_of : (a b c d f g : Bool) → T (a || b || c || d || f || g)
    → (w : Ending)
    × ((when a then some result else when b then some reject else when c then some expiry else when d then some answered else when f || g then some closed else none) ≡ some w)
way_of true b c d f g t = (result, refl)
way_of false true c d f g t = (reject, refl)
way_of false false true d f g t = (expiry, refl)
way_of false false false true f g t = (answered, refl)
way_of false false false false true g t = (closed, refl)
way_of false false false false false true t = (closed, refl)
way_of false false false false false false t = absurd t

-- a request at another place than that of a store
elsewhere : (calls : List Call) (i j k : ℕ) (x : Call) → (j ≡ i → ⊥) → Open calls j k ↔ Open (set calls i x) j k
elsewhere calls i j k x n =
    let y = get_or-set_other calls i j x free_call n in
    (λ a. record { asked = rw y a.asked; bears = rw y a.bears }, λ a. record { asked = rw y at a.asked; bears = rw y at a.bears })

only : {s : Station} {calls : List Call} {e : Event} {o : Outcome} (i k : ℕ) → Stepped s calls e o → Open calls i k → (Open o.calls i k → ⊥) → Ended s calls e i
only i k (refuses n q) a f = absurd (f a)
only {s} {calls} {e} i k (settles p m l) a f = go (ℕ_discrete i (place calls e))
  where
    go : Dec (i ≡ place calls e) → Ended s calls e i
    go (yes q) =
        let x = ends_there s calls e p m l (rw (← q) a.asked) in
        let (w, k) = way_of (eqb e.kind 7) (eqb e.kind 8) (clock e) (eqb e.kind 5) (ends e) (eqb e.kind 15) x.kind in
        record { done = code_refusal s calls e ∙ p.number; here = sym q; way = w; kind = k }
    go (no n) = absurd (f ((elsewhere calls (place calls e) i k (effect_at s calls e (place calls e)).call n).0 a))
only i k (moves p l) a f = absurd (f a)

pub ends_only : EndsOnly
ends_only s calls e i k a f = only i k (stepped s calls e) a f

indeed : {s : Station} {calls : List Call} {e : Event} {o : Outcome} (i : ℕ) → Stepped s calls e o → T (requested (at calls i)) → place calls e ≡ i → T (not (of_remote e))
    → refusal s calls e ≡ 0 → T (not (requested (at o.calls i)))
indeed i (refuses n q) r h m z = absurd (omega arith)
indeed {s} {calls} {e} i (settles p m l) r h n z =
    let x = (effect_at s calls e (place calls e)).call in
    let y = get_or-set_same calls (place calls e) x free_call l in
    rw (← h) (rw y (ends_there s calls e p m l (rw h r)).over)
indeed {s} {calls} {e} i (moves p l) r h n z = let m = within requested free_call calls i tt r in let o = off_call calls e l n in absurd (omega arith)

-- kinds 16 to 31 bring no ending to a record's request
ending_near : (e : Event) (w : Ending) → ending_of e ≡ some w → T (not (of_remote e))
ending_near e w q =
    not_T (of_remote e) (λ t.
    let l : 16 ≤ e.kind = search (and_l, leb→le) in
    let z : ending_of e ≡ none = simp (ne_eqb e.kind 7 (λ q. omega arith), ne_eqb e.kind 8 (λ q. omega arith), ne_eqb e.kind 10 (λ q. omega arith), ne_eqb e.kind 5 (λ q. omega arith), ne_eqb e.kind 11 (λ q. omega arith), ne_eqb e.kind 15 (λ q. omega arith)) in
    let y : ◌≡◌ {A = ℕ} 0 1 = cc in omega arith)

pub ends_indeed : EndsIndeed
ends_indeed s calls e i r x = indeed i (stepped s calls e) r x.here (ending_near e x.way x.kind) (sym (code_refusal s calls e) ∙ x.done)

-- how it begins
begins : {s : Station} {calls : List Call} {e : Event} {o : Outcome} (i k : ℕ) → Stepped s calls e o → (Open calls i k → ⊥) → Open o.calls i k → Begun s calls e i k
begins i k (refuses n q) f a = absurd (f a)
begins {s} {calls} {e} i k (settles p m l) f a = go (ℕ_discrete i (place calls e))
  where
    x : Call
    x = (effect_at s calls e (place calls e)).call

    go : Dec (i ≡ place calls e) → Begun s calls e i k
    go (yes q) =
        let c = at calls (place calls e) in
        let y : at (set calls (place calls e) x) i ≡ x = rw q (get_or-set_same calls (place calls e) x free_call l) in
        let (u, v) = addressed_there s calls e p in
        let h = record_sound s calls p.whole (place calls e) l in
        let (d, j) = act_request s.last (identifier_for s calls) c e h p.timely (call_made_lem e m p.made) u v (rw y at a.asked) in
        let g : place calls e ≡ e.call = rw (eqb→eq e.kind 6 d) in
        record { done = code_refusal s calls e ∙ p.number; kind = d; here = sym (q ∙ g); drawn = sym (rw y at a.bears) ∙ j }
    go (no n) = absurd (f ((elsewhere calls (place calls e) i k x n).1 a))
begins i k (moves p l) f a = absurd (f a)

pub begins_only : BeginsOnly
begins_only s calls e i k f a = begins i k (stepped s calls e) f a
