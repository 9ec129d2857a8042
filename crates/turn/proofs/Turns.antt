-- A turn by its number, as the code finds it. Assumes nothing.
use Prim.Native.Nat.{ℕ, ◌+◌, ◌<◌}
use mathlib.Core.Bool.{Bool, true, false, ◌&&◌, ◌||◌, false≢true}
use mathlib.Core.Path.{◌≡◌, refl, sym, ap, ◌∙◌}
use native.Mathlib.Omega.{arith}
use borrow.Author.Tests.{ltb-false, leb-false, eqb-true, eqb-false, ne_eqb}
use lib.Dec.{eqb}
use Rattle.ground.specs.Choice.{when◌then◌else◌}
use Rattle.ground.proofs.Bools.{by_cases, upheld}
use Rattle.ground.proofs.Walks.{neither}
use Rattle.event.specs.declared.Event.{Event}
use Rattle.event.specs.Kinds.{opens, of_incoming, of_outgoing, ends}
use Rattle.event.specs.Remote.{of_remote}
use Rattle.event.specs.WellMade.{well_made}
use Rattle.call.specs.State.{wrong_call, basic_forbids, state_forbids}
use Rattle.remote.specs.Rules.{none_waits}
use Rattle.station.specs.declared.Station.{Station}
use Rattle.station.specs.Refusals.{early, ill_made, foreign_answer, over_limit, pending_already}
use Rattle.sight.specs.declared.Seen.{Seen}
use Rattle.sight.specs.Sight.{beyond}
use Rattle.sight.proofs.Sorts.{kind_low, kind_high}
use Rattle.numbers.specs.Numbers.{number_of}
use Rattle.numbers.proofs.Numbered.{by_seen, numbers_early}
use Rattle.deed.specs.Deed.{Doable}
use Rattle.turn.specs.Turn.{Turn, Refused, Far, Done, turn_of}

-- a test was passed where the number is 0
passed : (b : Bool) (k n : ℕ) → (when b then k else n) ≡ 0 → (k ≡ 0 → ⊥) → (b ≡ false) × (n ≡ 0)
passed true k n q z = absurd (z q)
passed false k n q z = (refl, q)

first_two : (a b : Bool) (n : ℕ) → (when a then 2 else when b then 3 else n) ≡ 0 → (a ≡ false) × (b ≡ false)
first_two true b n q = absurd (omega (arith, q))
first_two false true n q = absurd (omega (arith, q))
first_two false false n q = (refl, refl)

-- numbers from 4 on
abbrev from_4 : Station → Event → Seen → ℕ
from_4 s e v =
    when ((of_incoming e || of_outgoing e || ends e) && beyond v) || wrong_call v.call e then 4 else
    when basic_forbids v.call e then 10 else
    when state_forbids v.call e || none_waits s.remote e then 11 else
    when foreign_answer s v.call e then 6 else
    when over_limit s v.call e then 7 else
    when opens e && beyond v then 8 else
    when pending_already s e then 9 else
    0

module _ (s : Station) (e : Event) (v : Seen) where
  -- refused before its number is looked for
  pub turns_early : e.time < s.last → Refused 2 ≡ turn_of s e v
  unfolding turn_of
  turns_early h = rw (by_seen s e v ∙ numbers_early s e (beyond v) v.call (beyond v) h)

  module _ (code : ℕ) (q : code ≡ number_of s e v) where
    pub turns_refused : (code ≡ 0 → ⊥) → Refused code ≡ turn_of s e v
    unfolding turn_of
    turns_refused z = rw (← q, ne_eqb code 0 z)

    module _ (z : code ≡ 0) where
      none : number_of s e v ≡ 0
      none = sym q ∙ z

      pub turns_far : of_remote e || beyond v ≡ true → Far ≡ turn_of s e v
      unfolding turn_of
      turns_far o = rw (none, o)

      pub turns_there : of_remote e || beyond v ≡ false → Done ≡ turn_of s e v
      unfolding turn_of
      turns_there o = rw (none, o)

      by_two : (early s e ≡ false) × (ill_made e ≡ false)
      unfolding number_of
      by_two = first_two (early s e) (ill_made e) (from_4 s e v) none

      pub made : well_made e ≡ true
      made = upheld (well_made e) (well_made e) refl by_two.1

      -- a divert that is not refused is within the limit, so its counter has room for one more
      pub room : s.limit < 256 → e.kind ≡ 6 → v.call.counter < 255
      unfolding number_of
      room l k =
          let n8 : ℕ = when pending_already s e then 9 else 0 in
          let n7 : ℕ = when opens e && beyond v then 8 else n8 in
          let n6 : ℕ = when over_limit s v.call e then 7 else n7 in
          let n11 : ℕ = when foreign_answer s v.call e then 6 else n6 in
          let n10 : ℕ = when state_forbids v.call e || none_waits s.remote e then 11 else n11 in
          let n4 : ℕ = when basic_forbids v.call e then 10 else n10 in
          let n2 : ℕ = when ill_made e then 3 else from_4 s e v in
          let a = passed (early s e) 2 n2 none (λ x. omega (arith, x)) in
          let b = passed (ill_made e) 3 (from_4 s e v) a.1 (λ x. omega (arith, x)) in
          let c = passed (((of_incoming e || of_outgoing e || ends e) && beyond v) || wrong_call v.call e) 4 n4 b.1 (λ x. omega (arith, x)) in
          let t = passed (basic_forbids v.call e) 10 n10 c.1 (λ x. omega (arith, x)) in
          let d = passed (state_forbids v.call e || none_waits s.remote e) 11 n11 t.1 (λ x. omega (arith, x)) in
          let f = passed (foreign_answer s v.call e) 6 n6 d.1 (λ x. omega (arith, x)) in
          let o : over_limit s v.call e ≡ false = (passed (over_limit s v.call e) 7 n7 f.1 (λ x. omega (arith, x))).0 in
          let m = ltb-false s.limit (v.call.counter + 1) (rw k at o) in
          omega arith

-- what a turn tells of its event
abbrev number_in : Turn → ℕ
number_in (Refused code) = code
number_in Far = 0
number_in Done = 0

abbrev is_refused : Turn → Bool
is_refused (Refused code) = true
is_refused Far = false
is_refused Done = false

abbrev is_done : Turn → Bool
is_done (Refused code) = false
is_done Far = false
is_done Done = true

module _ (s : Station) (e : Event) (v : Seen) where
  either_way : (b : Bool) → is_refused (when b then Far else Done) ≡ false
  either_way true = refl
  either_way false = refl

  -- a refusal has a number
  pub refused_number : (code : ℕ) → turn_of s e v ≡ Refused code → code ≡ 0 → ⊥
  unfolding turn_of
  refused_number code q z =
      by_cases (eqb (number_of s e v) 0)
      (λ t. false≢true (sym (either_way (of_remote e || beyond v)) ∙ ap is_refused (rw t at q)))
      (λ f. let n : number_of s e v ≡ code = ap number_in (rw f at q) in eqb-false (number_of s e v) 0 f (n ∙ z))

  done_near : turn_of s e v ≡ Done → (of_remote e ≡ false) × (beyond v ≡ false)
  unfolding turn_of
  done_near q =
      by_cases (eqb (number_of s e v) 0) (λ t.
      by_cases (of_remote e || beyond v)
      (λ b. absurd (false≢true (ap is_done (rw (t, b) at q))))
      (λ b. neither (of_remote e) (beyond v) b))
      (λ f. absurd (false≢true (ap is_done (rw f at q))))

  -- what is done on a record is done on one of the table
  pub done_there : turn_of s e v ≡ Done → v.place < v.len
  done_there q = leb-false v.len v.place (done_near q).1

  done_passes : turn_of s e v ≡ Done → 0 ≡ number_of s e v
  unfolding turn_of
  done_passes q = by_cases (eqb (number_of s e v) 0) (λ t. sym (eqb-true (number_of s e v) 0 t)) (λ f. absurd (false≢true (ap is_done (rw f at q))))

  -- and has a rule
  pub done_doable : turn_of s e v ≡ Done → s.limit < 256 → Doable e v
  done_doable q l =
      let n = done_passes q in
      let w = made s e v 0 n refl in
      (kind_low e w, kind_high e (done_near q).0 w, room s e v 0 n refl l)
