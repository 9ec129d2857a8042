-- The numbers of an event by its kind: an open, a clock event, an event on a call, one of kinds 16 to 31; and the code's order of the tests, which gives 8 where it gives 4 and has the page's numbers all the same. Assumes nothing.
use Prim.Native.Nat.{ℕ, ◌≤◌, ◌<◌}
use mathlib.Core.Bool.{Bool, true, false, ◌&&◌, ◌||◌}
use mathlib.Core.List.{List}
use mathlib.Core.Path.{◌≡◌, refl, sym, ◌∙◌}
use Rattle.std.specs.Prelude.{Err}
use native.Mathlib.Omega.{arith}
use borrow.Author.Tests.{ne_eqb, lt-ltb, le-ltb, lt-leb, leb-true, ltb-true, ltb-false, eqb-true, eqb-false}
use lib.Dec.{eqb, ltb, leb}
use lib.ListN.{length}
use Rattle.ground.specs.Choice.{when◌then◌else◌}
use Rattle.ground.specs.Lists.{first}
use Rattle.ground.proofs.Bools.{by_cases}
use Rattle.ground.proofs.Walks.{both, or_false}
use Rattle.event.specs.declared.Event.{Event}
use Rattle.event.specs.declared.Refusal.{Refusal}
use Rattle.event.specs.declared.Refusal.TheVariants.{NotSound, Early, IllMade, NoSuchCall, OtherIdentifier, OverLimit, NoFreeRecord, PendingAlready, NotInBasicState, NotTaken}
use Rattle.event.specs.Kinds.{opens, of_incoming, of_outgoing, ends}
use Rattle.event.specs.Remote.{of_remote}
use Rattle.event.specs.Refusals.{code_of}
use Rattle.event.specs.WellMade.{well_made}
use Rattle.call.specs.declared.Call.{Call}
use Rattle.call.specs.Record.{is_free}
use Rattle.call.specs.State.{wrong_call, basic_forbids, state_forbids, ten_or_eleven, state_number}
use Rattle.remote.specs.Rules.{none_waits, remote_refusal}
use Rattle.station.specs.declared.Station.{Station}
use Rattle.station.specs.Table.{at}
use Rattle.station.specs.Refusals.{early, ill_made, other_identifier, foreign_answer, over_limit, pending_already, refusal_on_sound}
use Rattle.event.proofs.Groups.{of_no_call, opener, no_opener, no_incoming, no_outgoing}
use Rattle.sight.specs.declared.Seen.{Seen}
use Rattle.sight.specs.Sight.{beyond}
use Rattle.sight.proofs.Sorts.{kind_low, names}
use Rattle.numbers.specs.Numbers.{no_record, number_of}

-- two tests with one number
either : (a b : Bool) (x y : ℕ) → (when a || b then x else y) ≡ (when a then x else when b then x else y)
either true b x y = refl
either false b x y = refl

-- numbers 4, 10, 11, 6 and 7 where the event names a call, or 0
abbrev pub named_refusal : Station → Call → Event → ℕ
named_refusal s c e =
    when wrong_call c e then 4 else
    when basic_forbids c e then 10 else
    when state_forbids c e then 11 else
    when other_identifier c e then 6 else
    when over_limit s c e then 7 else
    0

-- the numbers, by what they are decided on: is the call that is named past the end, its record, is no record free
abbrev pub numbers : Station → Event → Bool → Call → Bool → ℕ
numbers s e far c full =
    when early s e then 2 else
    when ill_made e then 3 else
    when ((of_incoming e || of_outgoing e || ends e) && far) || wrong_call c e then 4 else
    when basic_forbids c e then 10 else
    when state_forbids c e || none_waits s.remote e then 11 else
    when foreign_answer s c e then 6 else
    when over_limit s c e then 7 else
    when opens e && full then 8 else
    when pending_already s e then 9 else
    0

pub by_table : (s : Station) (calls : List Call) (e : Event)
    → refusal_on_sound s calls e ≡ numbers s e (leb (length calls) e.call) (at calls e.call) (leb (length calls) (first is_free calls))
unfolding refusal_on_sound
by_table s calls e = refl

pub by_seen : (s : Station) (e : Event) (v : Seen) → number_of s e v ≡ numbers s e (beyond v) v.call (beyond v)
unfolding number_of
by_seen s e v = refl

module _ (s : Station) (e : Event) (far : Bool) (c : Call) (full : Bool) where
  pub numbers_early : e.time < s.last → numbers s e far c full ≡ 2
  numbers_early h = rw (lt-ltb e.time s.last h)

  module _ (h : s.last ≤ e.time) where
    pub numbers_ill : well_made e ≡ false → numbers s e far c full ≡ 3
    numbers_ill w = rw (le-ltb e.time s.last h, w)

    module _ (w : well_made e ≡ true) where
      -- an open is refused only where no record is free
      pub numbers_open : e.kind < 4 → numbers s e far c full ≡ (when full then 8 else 0)
      unfolding basic_forbids state_forbids
      numbers_open k =
          simp (
            le-ltb e.time s.last h,
            w,
            no_incoming e k,
            no_outgoing e (omega arith),
            opener e (kind_low e w) k,
            lt-leb 16 e.kind (omega arith),
            lt-leb 24 e.kind (omega arith),
            ne_eqb e.kind 11 (λ q. omega arith),
            ne_eqb e.kind 7 (λ q. omega arith),
            ne_eqb e.kind 8 (λ q. omega arith),
            ne_eqb e.kind 6 (λ q. omega arith),
          )

      -- a clock event is never refused
      pub numbers_clock : e.kind ≡ 10 → numbers s e far c full ≡ 0
      unfolding basic_forbids state_forbids
      numbers_clock k = rw (le-ltb e.time s.last h, w, k)

      -- an event on a call
      pub numbers_named : 4 ≤ e.kind → e.kind ≤ 15 → (e.kind ≡ 10 → ⊥) → numbers s e far c full ≡ (when far then 4 else named_refusal s c e)
      numbers_named k l o =
          simp (le-ltb e.time s.last h, w, names e k l o, no_opener e k, lt-leb 16 e.kind (omega arith), lt-leb 24 e.kind (omega arith), or_false)
          (either far (wrong_call c e) 4 _)

      -- one of kinds 16 to 31: of the tests of a call's event, none is for it
      pub numbers_far : of_remote e ≡ true → numbers s e far c full ≡ remote_refusal s.remote e
      unfolding basic_forbids state_forbids remote_refusal
      numbers_far o =
          let n = of_no_call e (leb-true 16 e.kind (both (leb 16 e.kind) (leb e.kind 31) o).0) in
          simp (le-ltb e.time s.last h, w, n.opens, n.incoming, n.outgoing, n.diverts, n.answers, n.ends)

-- the code's order, from 4 on: where the event finds no record of its own, its kind tells the number
abbrev pub later : Station → Event → Seen → ℕ
later s e v =
    when beyond v || wrong_call v.call e then no_record e.kind else
    when basic_forbids v.call e then 10 else
    when state_forbids v.call e then 11 else
    when other_identifier v.call e then 6 else
    when over_limit s v.call e then 7 else
    0

-- the two tests of the state by their one number: what is tested behind them counts only where it is 0
goes_on_lem : (a b : Bool) (number : ℕ) → (ten_or_eleven a b ≡ 0 → ⊥) → ten_or_eleven a b ≡ (when a then 10 else when b then 11 else number)
goes_on_lem true b number n = refl
goes_on_lem false true number n = refl
goes_on_lem false false number n = absurd (n refl)

neither_one : (a b : Bool) → ten_or_eleven a b ≡ 0 → (a ≡ false) × (b ≡ false)
neither_one true b n = absurd (omega (arith, n))
neither_one false true n = absurd (omega (arith, n))
neither_one false false n = (refl, refl)

-- a refusal has a number
pub has_number : (r : Refusal) → code_of (Err r) ≡ 0 → ⊥
has_number NotSound q = omega (arith, q)
has_number Early q = omega (arith, q)
has_number IllMade q = omega (arith, q)
has_number NoSuchCall q = omega (arith, q)
has_number OtherIdentifier q = omega (arith, q)
has_number OverLimit q = omega (arith, q)
has_number NoFreeRecord q = omega (arith, q)
has_number PendingAlready q = omega (arith, q)
has_number NotInBasicState q = omega (arith, q)
has_number NotTaken q = omega (arith, q)

module _ (c : Call) (e : Event) where
  pub by_state : (r : Refusal) (number : ℕ) → code_of (Err r) ≡ state_number c e → code_of (Err r) ≡ (when basic_forbids c e then 10 else when state_forbids c e then 11 else number)
  by_state r number q = q ∙ goes_on_lem (basic_forbids c e) (state_forbids c e) number (λ x. has_number r (q ∙ x))

  pub past_state : 0 ≡ state_number c e → (basic_forbids c e ≡ false) × (state_forbids c e ≡ false)
  past_state q = neither_one (basic_forbids c e) (state_forbids c e) (sym q)

same_two : (b : Bool) (n : ℕ) → (when b then n else n) ≡ n
same_two true n = refl
same_two false n = refl

module _ (s : Station) (e : Event) (v : Seen) where
  later_open : well_made e ≡ true → e.kind < 4 → later s e v ≡ (when beyond v then 8 else 0)
  unfolding basic_forbids state_forbids
  later_open w k =
      let l = kind_low e w in
      simp (
        no_incoming e k,
        no_outgoing e (omega arith),
        or_false,
        le-ltb e.kind 1 l,
        lt-ltb e.kind 4 k,
        ne_eqb e.kind 11 (λ q. omega arith),
        ne_eqb e.kind 7 (λ q. omega arith),
        ne_eqb e.kind 8 (λ q. omega arith),
        ne_eqb e.kind 6 (λ q. omega arith),
      )

  later_clock : e.kind ≡ 10 → later s e v ≡ 0
  unfolding basic_forbids state_forbids
  later_clock k = rw k (same_two (beyond v || false) 0)

  later_named : 4 ≤ e.kind → (e.kind ≡ 10 → ⊥) → later s e v ≡ (when beyond v then 4 else named_refusal s v.call e)
  later_named k o =
      simp (le-ltb e.kind 1 (omega arith), le-ltb e.kind 4 k, ne_eqb e.kind 10 o)
      (either (beyond v) (wrong_call v.call e) 4 _)

  -- kinds 1 to 15
  pub number_later : (kind : ℕ) → (kind ≡ e.kind) × (kind ≤ 15) × (s.last ≤ e.time) × (well_made e ≡ true) → later s e v ≡ number_of s e v
  number_later kind (same, low, h, w) =
      by_cases (ltb e.kind 4)
      (λ t. let k = ltb-true e.kind 4 t in later_open w k ∙ sym (by_seen s e v ∙ numbers_open s e (beyond v) v.call (beyond v) h w k)) (λ n.
      let k = ltb-false e.kind 4 n in
      by_cases (eqb e.kind 10)
      (λ t. let q = eqb-true e.kind 10 t in later_clock q ∙ sym (by_seen s e v ∙ numbers_clock s e (beyond v) v.call (beyond v) h w q))
      (λ f. let q = eqb-false e.kind 10 f in later_named k q ∙ sym (by_seen s e v ∙ numbers_named s e (beyond v) v.call (beyond v) h w k (omega (arith, same, low)) q)))

  -- kinds 16 to 31
  pub number_far : s.last ≤ e.time → well_made e ≡ true → of_remote e ≡ true → remote_refusal s.remote e ≡ number_of s e v
  number_far h w o = sym (by_seen s e v ∙ numbers_far s e (beyond v) v.call (beyond v) h w o)

  -- an event of no kind
  pub number_ill : s.last ≤ e.time → well_made e ≡ false → 3 ≡ number_of s e v
  number_ill h w = sym (by_seen s e v ∙ numbers_ill s e (beyond v) v.call (beyond v) h w)
