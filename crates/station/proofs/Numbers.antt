-- The first of a list of conditions that holds, by its number; and what is known where none does. Assumes nothing.
use Prim.Native.Nat.{ℕ, ◌≤◌}
use native.Mathlib.Omega.{arith}
use mathlib.Core.Path.{◌≡◌, refl, sym, ◌∙◌}
use mathlib.Core.Logic.{◌⊎◌, inl, inr}
use mathlib.Core.Bool.{Bool, true, false, not, ◌&&◌}
use mathlib.Core.List.{List, [], ◌∷◌}
use lib.Dec.{T, eqb, T_not, nltb→le}
use lib.ListN.{drop}
use borrow.Author.Tests.{le-ltb}
use Rattle.ground.specs.Choice.{when◌then◌else◌}
use Rattle.ground.proofs.Bools.{not_not, nor_l, nor_r, is_true}
use Rattle.event.specs.declared.Event.{Event}
use Rattle.event.specs.WellMade.{well_made}
use Rattle.event.specs.Kinds.{answers_request}
use Rattle.call.specs.declared.Call.{Call}
use Rattle.call.specs.State.{state_forbids}
use Rattle.remote.specs.Rules.{already_asked, none_waits, other_answer}
use Rattle.station.specs.declared.Station.{Station}
use Rattle.station.specs.Table.{at, sound}
use Rattle.station.specs.Refusals.{not_sound, early, ill_made, no_such_call, not_in_basic_state, not_taken, foreign_answer, over_limit, no_free_record, pending_already, refusal_on_sound, refusal}
use Rattle.station.specs.Demand1.{conditions, Given, PastFour}

-- a cascade of conditions: the first that holds gives its number
unfoldable pub numbered : List (ℕ × Bool) → ℕ
numbered [] = 0
numbered ((n, holds) ∷ rest) = when holds then n else numbered rest

pub given : (tests : List (ℕ × Bool)) → Given tests (numbered tests)
unfolding numbered
given [] = refl
given ((n, true) ∷ rest) = inl (tt, refl)
given ((n, false) ∷ rest) = inr (tt, given rest)

-- one number only
pub given_once : (tests : List (ℕ × Bool)) (m n : ℕ) → Given tests m → Given tests n → m ≡ n
given_once [] m n f g = f ∙ sym g
given_once ((k, holds) ∷ rest) m n (inl f) (inl g) = f.1 ∙ sym g.1
given_once ((k, holds) ∷ rest) m n (inl f) (inr g) = absurd (T_not holds g.0 f.0)
given_once ((k, holds) ∷ rest) m n (inr f) (inl g) = absurd (T_not holds f.0 g.0)
given_once ((k, holds) ∷ rest) m n (inr f) (inr g) = given_once rest m n f.1 g.1

-- the number is another one: the condition does not hold
pub passes : (k number : ℕ) (holds : Bool) {Rest : Type 0} → (number ≡ k → ⊥) → (T holds × (number ≡ k)) ⊎ (T (not holds) × Rest) → T (not holds) × Rest
passes k number holds n (inl g) = absurd (n g.1)
passes k number holds n (inr g) = g

-- the page's cascade is this one
pub refusal_numbered : (s : Station) (calls : List Call) (e : Event) → refusal s calls e ≡ numbered (conditions s calls e)
unfolding refusal refusal_on_sound numbered
refusal_numbered s calls e = refl

-- what is known of an event that is done
pub record Passed (s : Station) (calls : List Call) (e : Event) : Type 0 where
  pub number : refusal s calls e ≡ 0
  pub whole : T (sound s calls)
  pub timely : s.last ≤ e.time
  pub made : T (well_made e)
  pub named : T (not (no_such_call calls e))
  pub taken : T (not (state_forbids (at calls e.call) e))
  pub awaited : T (not (none_waits s.remote e))
  pub identified : T (not (answers_request e && not (eqb e.identifier (at calls e.call).identifier)))
  pub bearing : T (not (other_answer s.remote e))
  pub within : T (not (over_limit s (at calls e.call) e))
  pub room : T (not (no_free_record calls e))
  pub unasked : T (not (already_asked s.remote e))

-- the conditions behind that of 4, of 10, of 11
abbrev pub behind_four : Station → List Call → Event → List (ℕ × Bool)
behind_four s calls e = drop 4 (conditions s calls e)

abbrev pub behind_ten : Station → List Call → Event → List (ℕ × Bool)
behind_ten s calls e = drop 5 (conditions s calls e)

abbrev pub behind_eleven : Station → List Call → Event → List (ℕ × Bool)
behind_eleven s calls e = drop 6 (conditions s calls e)

module _ (s : Station) (calls : List Call) (e : Event) where
  -- a number that is none of 1 to 4
  pub past_four : (number : ℕ) → ((k : ℕ) → 1 ≤ k → k ≤ 4 → number ≡ k → ⊥) → Given (conditions s calls e) number → PastFour s calls e × Given (behind_four s calls e) number
  past_four number n g =
      let (a, g1) = passes 1 number (not_sound s calls) (n 1 (omega arith) (omega arith)) g in
      let (b, g2) = passes 2 number (early s e) (n 2 (omega arith) (omega arith)) g1 in
      let (c, g3) = passes 3 number (ill_made e) (n 3 (omega arith) (omega arith)) g2 in
      let (d, g4) = passes 4 number (no_such_call calls e) (n 4 (omega arith) (omega arith)) g3 in
      (record { whole = not_not (sound s calls) a; timely = nltb→le e.time s.last b; made = not_not (well_made e) c; there = d }, g4)

  pub behind_four_lem : (number : ℕ) → PastFour s calls e → Given (behind_four s calls e) number → Given (conditions s calls e) number
  behind_four_lem number n g =
      let a : T (not (not_sound s calls)) = rw (is_true (sound s calls) n.whole) tt in
      let b : T (not (early s e)) = rw (le-ltb e.time s.last n.timely) tt in
      let c : T (not (ill_made e)) = rw (is_true (well_made e) n.made) tt in
      inr (a, inr (b, inr (c, inr (n.there, g))))

pub passed : (s : Station) (calls : List Call) (e : Event) → refusal s calls e ≡ 0 → Passed s calls e
passed s calls e q =
    let c = at calls e.call in
    let other = answers_request e && not (eqb e.identifier c.identifier) in
    let g : Given (conditions s calls e) 0 = rw (sym (refusal_numbered s calls e), q) at (given (conditions s calls e)) in
    let (n, g4) = past_four s calls e 0 (λ k l h x. omega (arith, x)) g in
    let (_, g10) = passes 10 0 (not_in_basic_state calls e) (λ x. omega (arith, x)) g4 in
    let (t, g11) = passes 11 0 (not_taken s calls e) (λ x. omega (arith, x)) g10 in
    let (f, g6) = passes 6 0 (foreign_answer s c e) (λ x. omega (arith, x)) g11 in
    let (o, g7) = passes 7 0 (over_limit s c e) (λ x. omega (arith, x)) g6 in
    let (r, g8) = passes 8 0 (no_free_record calls e) (λ x. omega (arith, x)) g7 in
    let (u, _) = passes 9 0 (pending_already s e) (λ x. omega (arith, x)) g8 in
    record {
      number = q;
      whole = n.whole;
      timely = n.timely;
      made = n.made;
      named = n.there;
      taken = nor_l (state_forbids c e) (none_waits s.remote e) t;
      awaited = nor_r (state_forbids c e) (none_waits s.remote e) t;
      identified = nor_l other (other_answer s.remote e) f;
      bearing = nor_r other (other_answer s.remote e) f;
      within = o;
      room = r;
      unasked = u;
    }
