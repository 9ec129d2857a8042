-- Document 02, Eight: number 5 split into 10 and 11. Assumes nothing.
use Prim.Native.Nat.{ℕ, ◌≤◌}
use native.Mathlib.Omega.{arith}
use mathlib.Core.Path.{◌≡◌, refl}
use mathlib.Core.Bool.{Bool, false, not, ◌&&◌, ◌||◌}
use mathlib.Core.Logic.{◌↔◌, ◌⊎◌, inl, inr, ⊎_elim}
use mathlib.Core.List.{List, [], ◌∷◌}
use lib.Dec.{T, eqb, leb, ltb, leb→le, le→leb, T_not}
use lib.ListN.{length, get_or-eq_default}
use borrow.Author.Tests.{ltb-true, ltb-false}
use Rattle.ground.proofs.Bools.{and_l, and_r, and_i, nor_l, nor_r, or_inl, or_inr, or_right, eq→eqb, by_cases, from_true, from_false}
use Rattle.event.specs.declared.Event.{Event}
use Rattle.event.specs.Kinds.{of_incoming, of_outgoing, ends}
use Rattle.event.specs.Remote.{answers_ours, of_remote}
use Rattle.call.specs.declared.Call.{Call}
use Rattle.call.specs.Record.{free_call}
use Rattle.call.specs.Soundness.{sound_call}
use Rattle.call.specs.State.{wrong_call, state_forbids, addressed, Taker, NoneTakes}
use Rattle.call.proofs.Sound.{free_sound}
use Rattle.call.proofs.Takers.{far_takes, basic_exact, taker_exact}
use Rattle.timed.specs.Timed.{waits}
use Rattle.remote.specs.Rules.{its, none_waits}
use Rattle.station.specs.declared.Station.{Station}
use Rattle.station.specs.Table.{at, sound}
use Rattle.station.specs.Refusals.{not_in_basic_state, not_taken}
use Rattle.station.specs.Demand1.{conditions, Given, code_of, PastFour, TenExact, ElevenExact, SplitExact, NeverFive}
use Rattle.station.proofs.Numbers.{behind_four, behind_ten, behind_eleven, passes, past_four, behind_four_lem}
use Rattle.station.proofs.Whole.{record_sound}
use Rattle.station.proofs.Demand1.{number_exact}

-- a place past the end has a free record, which is sound
at_sound : (s : Station) (calls : List Call) → T (sound s calls) → (i : ℕ) → T (sound_call s.last (at calls i))
at_sound s calls h i =
    by_cases (ltb i (length calls))
    (λ l. record_sound s calls h i (ltb-true i (length calls) l))
    (λ l. rw (get_or-eq_default calls free_call (ltb-false i (length calls) l)) (free_sound s.last))

module _ (s : Station) (calls : List Call) (e : Event) (n : PastFour s calls e) where
  abbrev c : Call
  c = at calls e.call

  right : T (addressed c e)
  right = nor_r ((of_incoming e || of_outgoing e || ends e) && leb (length calls) e.call) (wrong_call c e) n.there

  none : T (not_in_basic_state calls e) ↔ NoneTakes s.last c e
  none = basic_exact s.last c e (at_sound s calls n.whole e.call) n.made right

  some : T (not (not_in_basic_state calls e)) ↔ Taker s.last c e
  some = taker_exact s.last c e (at_sound s calls n.whole e.call) n.made right

  -- the call itself is sound: what no record takes it does not take
  not_taken_lem : T (not_in_basic_state calls e) → T (not_taken s calls e)
  not_taken_lem t =
      by_cases (state_forbids c e)
      (λ y. or_inl (state_forbids c e) (none_waits s.remote e) (from_true (state_forbids c e) y))
      (λ y. absurd (none.0 t (record { taker = c; sound = at_sound s calls n.whole e.call; direction = refl; basic = refl; takes = from_false (state_forbids c e) y })))

abbrev among : ℕ → List (ℕ × Bool) → Bool
among number [] = false
among number ((n, holds) ∷ rest) = eqb number n || among number rest

-- a number that is none of a list's is not given by it
absent : (number : ℕ) (tests : List (ℕ × Bool)) → (number ≡ 0 → ⊥) → T (not (among number tests)) → Given tests number → ⊥
absent number [] z n g = z g
absent number ((k, holds) ∷ rest) z n (inl g) = T_not (eqb number k) (nor_l (eqb number k) (among number rest) n) (eq→eqb number k g.1)
absent number ((k, holds) ∷ rest) z n (inr g) = absent number rest z (nor_r (eqb number k) (among number rest) n) g.1

pub never_five : NeverFive
never_five s calls e q = absent 5 (conditions s calls e) (λ x. omega (arith, x)) tt ((number_exact s calls e 5).0 q)

module _ (s : Station) (calls : List Call) (e : Event) where
  by_ten : Given (behind_four s calls e) 10 → T (not_in_basic_state calls e)
  by_ten (inl g) = g.0
  by_ten (inr g) = absurd (absent 10 (behind_ten s calls e) (λ x. omega (arith, x)) tt g.1)

  by_eleven : Given (behind_ten s calls e) 11 → T (not_taken s calls e)
  by_eleven (inl g) = g.0
  by_eleven (inr g) = absurd (absent 11 (behind_eleven s calls e) (λ x. omega (arith, x)) tt g.1)

  ten_of : code_of s calls e ≡ 10 → PastFour s calls e × T (not_in_basic_state calls e)
  ten_of q =
      let (n, g) = past_four s calls e 10 (λ k l h x. omega (arith, x)) ((number_exact s calls e 10).0 q) in
      (n, by_ten g)

  eleven_of : code_of s calls e ≡ 11 → PastFour s calls e × T (not (not_in_basic_state calls e)) × T (not_taken s calls e)
  eleven_of q =
      let (n, g) = past_four s calls e 11 (λ k l h x. omega (arith, x)) ((number_exact s calls e 11).0 q) in
      let (t, g10) = passes 10 11 (not_in_basic_state calls e) (λ x. omega (arith, x)) g in
      (n, t, by_eleven g10)

  to_ten : PastFour s calls e → T (not_in_basic_state calls e) → code_of s calls e ≡ 10
  to_ten n t = (number_exact s calls e 10).1 (behind_four_lem s calls e 10 n (inl (t, refl)))

  to_eleven : PastFour s calls e → T (not (not_in_basic_state calls e)) → T (not_taken s calls e) → code_of s calls e ≡ 11
  to_eleven n t y = (number_exact s calls e 11).1 (behind_four_lem s calls e 11 n (inr (t, inl (y, refl))))

pub ten_exact : TenExact
ten_exact s calls e =
    (λ q. let (n, t) = ten_of s calls e q in (n, (none s calls e n).0 t), λ (n, t). to_ten s calls e n ((none s calls e n).1 t))

module _ (s : Station) (calls : List Call) (e : Event) where
  abbrev forbids : Bool
  forbids = state_forbids (at calls e.call) e

  abbrev waits_none : Bool
  waits_none = none_waits s.remote e

  by_which : PastFour s calls e → T (not (not_in_basic_state calls e)) → T (forbids || waits_none) → (T forbids × Taker s.last (at calls e.call) e) ⊎ T waits_none
  by_which n t y =
      by_cases forbids
      (λ f. inl (from_true forbids f, (some s calls e n).0 t))
      (λ f. inr (or_right forbids waits_none (T_not forbids (from_false forbids f)) y))

  -- kinds 16 to 31 are no basic state's
  far_left : T waits_none → T (not (not_in_basic_state calls e))
  far_left w =
      let a : T (answers_ours e) = and_l (answers_ours e) (not (waits (its s.remote e))) w in
      let l : 24 ≤ e.kind = leb→le 24 e.kind (and_l (leb 24 e.kind) (leb e.kind 31) a) in
      let r : T (of_remote e) = and_i (leb 16 e.kind) (leb e.kind 31) (le→leb 16 e.kind (omega arith)) (and_r (leb 24 e.kind) (leb e.kind 31) a) in
      (far_takes (at calls e.call) e r).1

pub eleven_exact : ElevenExact
eleven_exact s calls e = (
  λ q. let (n, t, y) = eleven_of s calls e q in (n, by_which s calls e n t y),
  λ (n, w). ⊎_elim
      (λ (f, k). to_eleven s calls e n ((some s calls e n).1 k) (or_inl (forbids s calls e) (waits_none s calls e) f))
      (λ k. to_eleven s calls e n (far_left s calls e k) (or_inr (forbids s calls e) (waits_none s calls e) k))
      w,
)

pub split_exact : SplitExact
split_exact s calls e = (
  λ q. ⊎_elim (λ a. let (n, t) = ten_of s calls e a in (n, not_taken_lem s calls e n t)) (λ b. let (n, t, y) = eleven_of s calls e b in (n, y)) q,
  λ (n, y). by_cases (not_in_basic_state calls e)
      (λ t. inl (to_ten s calls e n (from_true (not_in_basic_state calls e) t)))
      (λ t. inr (to_eleven s calls e n (from_false (not_in_basic_state calls e) t) y)),
)
