-- The law of a turn: what is decided on what is seen of a table is `step_on_sound` on it, on every table; with the test of the table before it, `step`. Assumes nothing.
use Prim.Native.Nat.{ℕ, ◌≤◌, ◌<◌}
use mathlib.Core.Bool.{Bool, false, ◌||◌}
use mathlib.Core.List.{List}
use mathlib.Core.Path.{◌≡◌, refl, sym, ap, ◌∙◌}
use borrow.Author.Tests.{ne_eqb, lt-ltb, le-ltb, le-leb, ltb-true, ltb-false, leb-true, leb-false, eqb-true, eqb-false}
use lib.Dec.{eqb, ltb, leb}
use lib.ListN.{length}
use Rattle.ground.specs.Choice.{when◌then◌else◌}
use Rattle.ground.specs.Lists.{first}
use Rattle.ground.proofs.Bools.{by_cases}
use Rattle.ground.proofs.Walks.{or_true}
use Rattle.event.specs.declared.Event.{Event}
use Rattle.event.specs.Kinds.{diverts}
use Rattle.event.specs.Remote.{asks, of_remote}
use Rattle.event.specs.WellMade.{well_made}
use Rattle.identifier.specs.Identifier.{after}
use Rattle.call.specs.declared.Call.{Call}
use Rattle.call.specs.Record.{is_free}
use Rattle.call.specs.Act.{act}
use Rattle.call.specs.Incoming.{act_incoming}
use Rattle.remote.specs.Rules as rules
use Rattle.remote.proofs.Roles.{step_any}
use Rattle.station.specs.declared.Station.{Station}
use Rattle.station.specs.Table.{at, place, identifier_for, sound}
use Rattle.station.specs.Refusals.{refusal, refusal_on_sound}
use Rattle.station.specs.Step.{refused, next_after, station_after, far_moved, done, by_number, step, step_on_sound}
use Rattle.event.proofs.Groups.{opener, no_opener}
use Rattle.sight.specs.declared.Seen.{Seen}
use Rattle.sight.specs.Sight.{beyond}
use Rattle.sight.proofs.Sorts.{kind_low, kind_high}
use Rattle.numbers.specs.Numbers.{number_of}
use Rattle.numbers.proofs.Numbered.{named_refusal, numbers, by_table, by_seen, numbers_early, numbers_ill, numbers_open, numbers_clock, numbers_named, numbers_far}
use Rattle.outcome.specs.Outcome.{station_on}
use Rattle.turn.specs.Turn.{seen_in, turn_of, moved_of, decided_of, outcome_of, Sees}

module _ (e : Event) where
  -- only a divert reads the identifier
  pub act_other : (c : Call) (i j : ℕ) → diverts e ≡ false → act c e i ≡ act c e j
  unfolding act act_incoming
  act_other c i j q = rw q

-- a table tells what is seen of it
pub sees_in : (s : Station) (calls : List Call) (e : Event) → Sees s calls e (seen_in s calls e)
sees_in s calls e = record { size = refl; near = λ h. refl; far = λ h. h; there = λ h. refl; drawn = λ d. refl }

module _ (s : Station) (calls : List Call) (e : Event) (v : Seen) (z : Sees s calls e v) where
  same_beyond : beyond v ≡ leb (length calls) (place calls e)
  same_beyond =
      by_cases (leb (length calls) (place calls e))
      (λ t. rw (t, z.size) (le-leb (length calls) v.place (z.far (leb-true (length calls) (place calls e) t))))
      (λ f. let l = leb-false (length calls) (place calls e) f in rw (f, z.size, z.near l) f)

  -- the record where the event acts
  same_call : place calls e < length calls → v.call ≡ at calls (place calls e)
  same_call l = let p = z.near l in z.there (rw p l) ∙ ap (at calls) p

  opens_at : 1 ≤ e.kind → e.kind < 4 → place calls e ≡ first is_free calls
  opens_at l k = rw (opener e l k)

  names_at : 4 ≤ e.kind → (e.kind ≡ 10 → ⊥) → place calls e ≡ e.call
  names_at k o = simp (no_opener e k, ne_eqb e.kind 10 o)

  same_named : 4 ≤ e.kind → (e.kind ≡ 10 → ⊥)
      → (when beyond v then 4 else named_refusal s v.call e) ≡ (when leb (length calls) e.call then 4 else named_refusal s (at calls e.call) e)
  same_named k o =
      let p = names_at k o in
      let b : beyond v ≡ leb (length calls) e.call = same_beyond ∙ ap (leb (length calls)) p in
      by_cases (leb (length calls) e.call) (λ t. rw (b, t)) (λ f.
      let l : place calls e < length calls = rw p (leb-false (length calls) e.call f) in
      let c : v.call ≡ at calls e.call = same_call l ∙ ap (at calls) p in
      rw (b, f, c))

  -- the numbers are the definition's
  pub same_number : number_of s e v ≡ refusal_on_sound s calls e
  same_number = by_seen s e v ∙ go ∙ sym (by_table s calls e)
    where
      go : numbers s e (beyond v) v.call (beyond v) ≡ numbers s e (leb (length calls) e.call) (at calls e.call) (leb (length calls) (first is_free calls))
      go =
          by_cases (ltb e.time s.last)
          (λ t. let l = ltb-true e.time s.last t in numbers_early s e (beyond v) v.call (beyond v) l ∙ sym (numbers_early s e (leb (length calls) e.call) (at calls e.call) (leb (length calls) (first is_free calls)) l)) (λ f.
          let h = ltb-false e.time s.last f in
          by_cases (well_made e) (λ w.
          by_cases (of_remote e)
          (λ r. numbers_far s e (beyond v) v.call (beyond v) h w r ∙ sym (numbers_far s e (leb (length calls) e.call) (at calls e.call) (leb (length calls) (first is_free calls)) h w r)) (λ r.
          by_cases (ltb e.kind 4)
          (λ t. let k = ltb-true e.kind 4 t in
          numbers_open s e (beyond v) v.call (beyond v) h w k ∙ ap (λ (b : Bool). when b then 8 else 0) (same_beyond ∙ ap (leb (length calls)) (opens_at (kind_low e w) k)) ∙ sym (numbers_open s e (leb (length calls) e.call) (at calls e.call) (leb (length calls) (first is_free calls)) h w k)) (λ n.
          let k = ltb-false e.kind 4 n in
          let l = kind_high e r w in
          by_cases (eqb e.kind 10)
          (λ t. let q = eqb-true e.kind 10 t in numbers_clock s e (beyond v) v.call (beyond v) h w q ∙ sym (numbers_clock s e (leb (length calls) e.call) (at calls e.call) (leb (length calls) (first is_free calls)) h w q))
          (λ o. let q = eqb-false e.kind 10 o in numbers_named s e (beyond v) v.call (beyond v) h w k l q ∙ same_named k q ∙ sym (numbers_named s e (leb (length calls) e.call) (at calls e.call) (leb (length calls) (first is_free calls)) h w k l q)))))
          (λ i. numbers_ill s e (beyond v) v.call (beyond v) h i ∙ sym (numbers_ill s e (leb (length calls) e.call) (at calls e.call) (leb (length calls) (first is_free calls)) h i)))

  -- an identifier that isn't the one to be drawn is not read
  pub same_act : (c : Call) → act c e v.identifier ≡ act c e (identifier_for s calls)
  same_act c = by_cases (diverts e) (λ t. ap (act c e) (z.drawn (rw t))) (λ t. act_other e c v.identifier (identifier_for s calls) t)

  pub same_moved : moved_of s e v ≡ far_moved s calls e
  same_moved =
      by_cases (asks e)
      (λ t. ap (rules.step s.remote e) (z.drawn (rw t (or_true (diverts e)))))
      (λ t. step_any s.remote e v.identifier (identifier_for s calls) t)

  -- "the one after it is next"
  pub same_next : (when diverts e || asks e then after v.identifier else s.next) ≡ next_after s calls e
  same_next = by_cases (diverts e || asks e) (λ t. rw (t, z.drawn t)) (λ t. rw t)

  pub same_station : station_on s e v.identifier ≡ station_after s calls e
  same_station = rw same_next

  -- the law of a turn: find the place, read, decide, write back is the definition's step without the test of the table
  pub turn_steps : outcome_of s calls e v (turn_of s e v) ≡ step_on_sound s calls e
  unfolding turn_of step_on_sound by_number done
  turn_steps =
      by_cases (eqb (refusal_on_sound s calls e) 0) (λ t.
      by_cases (of_remote e) (λ r. rw (same_number, t, r, same_moved, same_next)) (λ r.
      by_cases (leb (length calls) (place calls e))
      (λ p. rw (same_number, t, r, same_beyond, p, le-ltb (place calls e) (length calls) (leb-true (length calls) (place calls e) p), same_moved, same_next))
      (λ f.
      let l = leb-false (length calls) (place calls e) f in
      rw (same_number, t, r, same_beyond, f, lt-ltb (place calls e) (length calls) l, z.near l, same_call l, same_act (at calls (place calls e)), same_next))))
      (λ n. rw (same_number, n))

module _ (s : Station) (calls : List Call) (e : Event) where
  -- whoever sees enough decides the same
  module _ (v : Seen) (z : Sees s calls e v) where
    pub turn_same : turn_of s e v ≡ turn_of s e (seen_in s calls e)
    unfolding turn_of
    turn_same =
        rw (same_number s calls e v z, same_number s calls e (seen_in s calls e) (sees_in s calls e), same_beyond s calls e v z)
        (by_cases (of_remote e || leb (length calls) (place calls e))
        (λ t. rw t)
        (λ f. rw f))

  on_sound : step_on_sound s calls e ≡ by_number s calls e (refusal_on_sound s calls e)
  unfolding step_on_sound
  on_sound = refl

  by_one : refused s calls 1 ≡ by_number s calls e 1
  unfolding by_number
  by_one = refl

  -- one event on any table
  pub decided_steps : outcome_of s calls e (seen_in s calls e) (decided_of s calls e) ≡ step s calls e
  unfolding decided_of step refusal
  decided_steps =
      by_cases (sound s calls)
      (λ t. rw t (turn_steps s calls e (seen_in s calls e) (sees_in s calls e) ∙ on_sound))
      (λ f. rw f by_one)
