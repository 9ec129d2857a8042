-- A rehearsal's answer is right for the plan, and there is no other. Assumes nothing.
use Prim.Native.Nat.{ℕ, zero, suc, ◌+◌, ◌≤◌, ◌<◌}
use mathlib.Core.Path.{◌≡◌, refl, sym, ap, ◌∙◌, subst}
use mathlib.Core.Bool.{Bool, true, false, ◌&&◌, not, false≢true}
use mathlib.Core.Logic.{◌↔◌, ◌⊎◌, inl, inr, ⊎_elim}
use mathlib.Core.List.{List}
use native.Mathlib.Omega.{arith}
use native.Mathlib.Nat.{not-suc-le-zero, le_of_suc-le-suc}
use lib.Dec.{T, eqb, ltb}
use borrow.Author.Tests.{ltb-true, ltb-false}
use Rattle.ground.specs.Choice.{when◌then◌else◌}
use Rattle.ground.proofs.Bools.{is_true, is_false, from_true, by_cases}
use Rattle.rehearsal.specs.declared.Panel.{Panel}
use Rattle.rehearsal.specs.declared.Rehearsed.{Rehearsed}
use Rattle.rehearsal.specs.Plan.{given, is_busy, is_unattended, panel_at, forwards_to, next, asks, after}
use Rattle.rehearsal.specs.Rehearsal.{rings, ends_busy, at_limit, ending_at, ended, forwards, offered, rehearsed}
use Rattle.rehearsal.specs.Statements.{keeps_busy, keeps_ringing, Tonight, RightTonight, OnlyTonight, StepsOn, ForwardsInOrder}

pub steps_on : StepsOn
unfolding after
steps_on plan start zero = refl
steps_on plan start (suc n) = steps_on plan (next plan start) n

-- no more forwards than are allowed
pub forwards_within : (left : ℕ) (plan : List Panel) (at : ℕ) → forwards left plan at ≤ left
unfolding forwards
forwards_within zero plan at = omega arith
forwards_within (suc left) plan at =
    by_cases (asks plan at)
    (λ q. let h = forwards_within left plan (next plan at) in simp q (omega arith))
    (λ q. simp q (omega arith))

-- each forward is asked for
pub forwards_asked : (left : ℕ) (plan : List Panel) (at n : ℕ) → n < forwards left plan at → T (asks plan (after plan at n))
unfolding forwards after
forwards_asked zero plan at n h = absurd (not-suc-le-zero h)
forwards_asked (suc left) plan at zero h =
    by_cases (asks plan at) (λ q. from_true _ q) (λ q. absurd (not-suc-le-zero (simp q at h)))
forwards_asked (suc left) plan at (suc n) h =
    by_cases (asks plan at)
    (λ q. forwards_asked left plan (next plan at) n (le_of_suc-le-suc (simp q at h)))
    (λ q. absurd (not-suc-le-zero (simp q at h)))

-- one that still asks has no forward left
pub asks_at_limit : (left : ℕ) (plan : List Panel) (at : ℕ) → asks plan (after plan at (forwards left plan at)) ≡ true → forwards left plan at ≡ left
unfolding forwards after
asks_at_limit zero plan at e = refl
asks_at_limit (suc left) plan at e =
    by_cases (asks plan at)
    (λ q. simp q (ap suc (asks_at_limit left plan (next plan at) (simp q at e))))
    (λ q. absurd (false≢true (simp q at e)))

pub forwards_in_order : ForwardsInOrder
forwards_in_order p =
    let cfu = given p.cfu in
    record {
      cfu_first = λ c. let c = is_true cfu c in (simp c, simp c);
      then_cfb = λ c b. let c = is_false cfu c in let b = is_true (is_busy p) b in (simp (c, b), simp (c, b));
      then_cfnr = λ c b u. let c = is_false cfu c in let b = is_false (is_busy p) b in let u = is_true (is_unattended p) u in (simp (c, b, u), simp (c, b));
      else_none = λ c b u. let c = is_false cfu c in let b = is_false (is_busy p) b in let u = is_false (is_unattended p) u in simp (c, b, u);
    }

-- a panel that keeps the call does not forward it, and is busy or rings
pub keeps_by : (p : Panel) → (keeps_busy p ≡ not (given (forwards_to p)) && is_busy p) × (keeps_ringing p ≡ not (given (forwards_to p)) && not (is_busy p))
keeps_by p =
    by_cases (eqb p.cfu 0)
    (λ q. by_cases (is_busy p)
    (λ b. by_cases (eqb p.cfb 0) (λ r. (simp (q, b, r), simp (q, b, r))) (λ r. (simp (q, b, r), simp (q, b, r))))
    (λ b. by_cases (is_unattended p)
    (λ u. by_cases (eqb p.cfnr 0) (λ r. (simp (q, b, u, r), simp (q, b, u, r))) (λ r. (simp (q, b, u, r), simp (q, b, u, r))))
    (λ u. (simp (q, b, u), simp (q, b, u)))))
    (λ q. (simp q, simp q))

-- the ending at a panel that wants to forward the call or not, and is busy or not
abbrev ending_by : Bool → Bool → ℕ
ending_by wants is_busy = when wants then at_limit else when is_busy then ends_busy else rings

rings_by : (g b : Bool) → (ending_by g b ≡ rings) ↔ T (not g && not b)
rings_by true b = ((λ e. omega arith), (λ t. absurd t))
rings_by false true = ((λ e. omega arith), (λ t. absurd t))
rings_by false false = ((λ e. tt), (λ t. refl))

busy_by : (g b : Bool) → (ending_by g b ≡ ends_busy) ↔ T (not g && b)
busy_by true b = ((λ e. omega arith), (λ t. absurd t))
busy_by false true = ((λ e. tt), (λ t. refl))
busy_by false false = ((λ e. omega arith), (λ t. absurd t))

one_of_three : (g b : Bool) → (ending_by g b ≡ rings) ⊎ ((ending_by g b ≡ ends_busy) ⊎ (ending_by g b ≡ at_limit))
one_of_three true b = inr (inr refl)
one_of_three false true = inr (inl refl)
one_of_three false false = inl refl

limit_by : (g b : Bool) → (ending_by g b ≡ at_limit) ↔ T g
limit_by true b = ((λ e. tt), (λ t. refl))
limit_by false true = ((λ e. omega arith), (λ t. absurd t))
limit_by false false = ((λ e. omega arith), (λ t. absurd t))

pub answer_is : (allowed : ℕ) (plan : List Panel) (start : ℕ)
    → rehearsed allowed plan start ≡ ended (after plan start (forwards allowed plan start)) (ending_at plan (after plan start (forwards allowed plan start))) (forwards allowed plan start)
unfolding offered
answer_is allowed plan start =
    let m = forwards allowed plan start in
    ap (ended (after plan start m) (ending_at plan (after plan start m))) (omega arith)

pub right_tonight : RightTonight
unfolding next
right_tonight allowed plan start =
    let m = forwards allowed plan start in
    let last = after plan start m in
    let p = panel_at plan last in
    rw (answer_is allowed plan start) record {
      done = refl;
      within = forwards_within allowed plan start;
      asked = forwards_asked allowed plan start;
      last_is = refl;
      ends_as = one_of_three (asks plan last) (is_busy p);
      rings_when = rw (keeps_by p).1 (rings_by (asks plan last) (is_busy p));
      busy_when = rw (keeps_by p).0 (busy_by (asks plan last) (is_busy p));
      limit_when = (
        (λ e. let t = (limit_by (asks plan last) (is_busy p)).0 e in
            (t, let n = asks_at_limit allowed plan start (is_true _ t) in omega arith)),
        (λ w. (limit_by (asks plan last) (is_busy p)).1 w.0),
      );
    }

same_answer : (r : Rehearsed) (last ending counter : ℕ) → r.code ≡ 0 → r.ending ≡ ending → r.last ≡ last → r.counter ≡ counter → r ≡ ended last ending counter
same_answer r last ending counter a b c d = rw (← a, ← b, ← c, ← d) refl

clash : (g b k : Bool) → k ≡ not g && b → T g → T k → ⊥
clash true b k e t u = subst (λ (x : Bool). T x) e u
clash false b k e t u = t

module _ (allowed : ℕ) (plan : List Panel) (start : ℕ) (r : Rehearsed) (right : Tonight allowed plan start r) where
  -- an answer that stops where the panel wants to forward the call is at the limit
  stops_at_limit : T (asks plan r.last) → allowed < r.counter + 1
  unfolding next
  stops_at_limit t =
      let p = panel_at plan r.last in
      ⊎_elim
      (λ e. absurd (clash (asks plan r.last) (not (is_busy p)) (keeps_ringing p) (keeps_by p).1 t (right.rings_when.0 e)))
      (⊎_elim
      (λ e. absurd (clash (asks plan r.last) (is_busy p) (keeps_busy p) (keeps_by p).0 t (right.busy_when.0 e)))
      (λ e. (right.limit_when.0 e).1))
      right.ends_as

  same_counter : r.counter ≡ forwards allowed plan start
  same_counter =
      let m = forwards allowed plan start in
      let fewer : r.counter < m → ⊥ = λ h.
      let t : T (asks plan r.last) = rw right.last_is (forwards_asked allowed plan start r.counter h) in
      omega (arith, stops_at_limit t, forwards_within allowed plan start) in
      let more : m < r.counter → ⊥ = λ h.
      omega (arith, asks_at_limit allowed plan start (is_true _ (right.asked m h)), right.within) in
      by_cases (ltb r.counter m)
      (λ t. absurd (fewer (ltb-true _ _ t)))
      (λ f. by_cases (ltb m r.counter) (λ t. absurd (more (ltb-true _ _ t))) (λ g. omega (arith, ltb-false r.counter m f, ltb-false m r.counter g)))

  same_ending : r.ending ≡ ending_at plan r.last
  unfolding next
  same_ending =
      let p = panel_at plan r.last in
      ⊎_elim
      (λ e. e ∙ sym ((rings_by (asks plan r.last) (is_busy p)).1 (rw (keeps_by p).1 at (right.rings_when.0 e))))
      (⊎_elim
      (λ e. e ∙ sym ((busy_by (asks plan r.last) (is_busy p)).1 (rw (keeps_by p).0 at (right.busy_when.0 e))))
      (λ e. e ∙ sym ((limit_by (asks plan r.last) (is_busy p)).1 (right.limit_when.0 e).0)))
      right.ends_as

pub only_tonight : OnlyTonight
only_tonight allowed plan start r right =
    let n = same_counter allowed plan start r right in
    let l : r.last ≡ after plan start (forwards allowed plan start) = right.last_is ∙ ap (after plan start) n in
    let e = same_ending allowed plan start r right ∙ ap (ending_at plan) l in
    same_answer r _ _ _ right.done e l n ∙ sym (answer_is allowed plan start)
