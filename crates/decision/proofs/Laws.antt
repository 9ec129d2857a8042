-- A record changes only where there is one; what a decision stands for is the definition's step; and what the code of `decided_on` finds comes to the decision on it. Assumes nothing.
use Prim.Native.Nat.{ℕ, ◌<◌}
use mathlib.Core.Bool.{Bool, true, false, ◌&&◌, ◌||◌, not}
use mathlib.Core.List.{List}
use mathlib.Core.Path.{◌≡◌, refl, ◌∙◌, subst}
use borrow.Author.Tests.{leb-false}
use lib.Dec.{eqb}
use lib.ListN.{length}
use Rattle.std.specs.Option.{ForSome}
use Rattle.std.proofs.lemmas.Option.{none-some, same_Some}
use Rattle.ground.specs.Choice.{when◌then◌else◌}
use Rattle.ground.proofs.Bools.{denied, upheld}
use Rattle.event.specs.declared.Event.{Event}
use Rattle.event.specs.Remote.{of_remote}
use Rattle.call.specs.declared.Call.{Call}
use Rattle.station.specs.declared.Station.{Station}
use Rattle.station.specs.Table.{sound}
use Rattle.station.specs.Step.{step}
use Rattle.bounds.specs.Bounds.{in_bounds}
use Rattle.slice.specs.Table.{settled_at}
use Rattle.survey.specs.declared.Noted.{Noted}
use Rattle.sight.specs.declared.Seen.{Seen}
use Rattle.sight.specs.Sight.{beyond}
use Rattle.numbers.specs.Numbers.{number_of}
use Rattle.deed.specs.Deed.{Doable, acted_of}
use Rattle.turn.specs.Turn.{Turn, Refused, Far, Done, seen_in, turn_of, decided_of, outcome_of}
use Rattle.turn.proofs.Turns.{done_doable}
use Rattle.turn.proofs.Laws.{decided_steps}
use Rattle.pick.specs.declared.Input.{Input}
use Rattle.pick.specs.declared.Pick.{Pick}
use Rattle.pick.specs.Pick.{place_seen}
use Rattle.change.specs.Change.{unchanged_as}
use Rattle.decision.specs.Decision.{decision_of, decision_on, outcome_by, decision_by}

-- what was seen, with the place as the code holds it
abbrev seen_at : ℕ → ℕ → Pick → Call → Seen
seen_at n i p c = record { len = n; place = i; identifier = p.identifier; call = c }

-- ---- a record changes only where there is one

-- what a turn on what was seen asks of the place
abbrev pub There : Seen → Turn → Type 0
There v (Refused code) = Unit
There v Far = Unit
There v Done = v.place < v.len

module _ (s : Station) (e : Event) (v : Seen) where
  pub turn_there : There v (turn_of s e v)
  unfolding turn_of
  turn_there = go (eqb (number_of s e v) 0) (of_remote e) (beyond v) refl
    where
      go : (z f b : Bool) → beyond v ≡ b → There v (when not z then Refused (number_of s e v) else when f || b then Far else Done)
      go true true b h = tt
      go true false true h = tt
      go true false false h = leb-false v.len v.place h
      go false f b h = tt

  within : (t : Turn) → There v t → ForSome (decision_of s e v t).change (λ (place, c). place < v.len)
  within (Refused code) h w q = absurd (none-some w q)
  within Far h w q = absurd (none-some w q)
  within Done h w q = rw (← same_Some (v.place, (acted_of e v).call) w q) h

module _ (s : Station) (calls : List Call) (e : Event) where
  decided_there : There (seen_in s calls e) (decided_of s calls e)
  unfolding decided_of
  decided_there = go (sound s calls)
    where
      go : (b : Bool) → There (seen_in s calls e) (when not b then Refused 1 else turn_of s e (seen_in s calls e))
      go true = turn_there s e (seen_in s calls e)
      go false = tt

  pub decision_within : ForSome (decision_on s calls e).change (λ (place, c). place < length calls)
  unfolding decision_on
  decision_within = within s e (seen_in s calls e) (decided_of s calls e) decided_there

  -- ---- the outcome that a decision stands for is the turn's, and so the definition's

  stands_for : (v : Seen) (t : Turn) → outcome_by calls (decision_of s e v t) ≡ outcome_of s calls e v t
  unfolding settled_at
  stands_for v (Refused code) = refl
  stands_for v Far = refl
  stands_for v Done = refl

  pub decision_steps : outcome_by calls (decision_on s calls e) ≡ step s calls e
  unfolding decision_on
  decision_steps = stands_for (seen_in s calls e) (decided_of s calls e) ∙ decided_steps s calls e

-- ---- what the code of `decided_on` found comes to
module _ (input : Input) (v : Noted) (n : ℕ) (p : Pick) (c : Call) (fit : Bool) (bounds : fit ≡ in_bounds n input.station) where
  pub by_refusal : not (fit && v.sound && p.apart) ≡ true → unchanged_as 1 input.station ≡ decision_by input v n p c
  by_refusal h = rw (denied (fit && v.sound && p.apart) (in_bounds n input.station && v.sound && p.apart) (rw bounds) h)

  module _ (i : ℕ) (placed : i ≡ place_seen v input) (t : Turn) (turns : turn_of input.station input.event (seen_at n i p c) ≡ t) where
    pub by_turn : not (fit && v.sound && p.apart) ≡ false → decision_of input.station input.event (seen_at n i p c) t ≡ decision_by input v n p c
    by_turn h = rw (upheld (fit && v.sound && p.apart) (in_bounds n input.station && v.sound && p.apart) (rw bounds) h, ← turns, placed)

    -- what is done has a rule
    pub has_rule : t ≡ Done → input.station.limit < 256 → Doable input.event (seen_at n i p c)
    has_rule q l = done_doable input.station input.event (seen_at n i p c) (turns ∙ q) l

    -- the place of a record that changes has room in a byte
    pub there : There (seen_at n i p c) t
    there = subst (There (seen_at n i p c)) turns (turn_there input.station input.event (seen_at n i p c))
