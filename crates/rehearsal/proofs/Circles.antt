-- Forwards that come back to a panel go on for ever, and a call stays in the plan. Assumes nothing.
use Prim.Native.Nat.{ℕ, zero, suc, ◌+◌, ◌-◌, ◌≤◌, ◌<◌}
use mathlib.Core.Path.{◌≡◌, sym, ap, ◌∙◌, subst}
use mathlib.Core.Bool.{Bool, true, ◌&&◌}
use mathlib.Core.List.{List}
use native.Mathlib.Omega.{arith}
use lib.Dec.{T, ltb, leb}
use lib.ListN.{length}
use borrow.Author.Tests.{ltb-true, ltb-false, leb-true, le-leb}
use Rattle.ground.specs.Lists.{all}
use Rattle.ground.proofs.Bools.{is_true, from_true, by_cases, and_l, and_r, and_i, when_has}
use Rattle.ground.proofs.Walks.{all_get}
use Rattle.station.specs.Station.{short_limit}
use Rattle.rehearsal.specs.declared.Panel.{Panel}
use Rattle.rehearsal.specs.Plan.{no_panel, panel_at, given, is_busy, is_unattended, forwards_to, next, asks, after, in_plan, panel_ok}
use Rattle.rehearsal.specs.Rehearsal.{forwards}
use Rattle.rehearsal.specs.Statements.{CircleEnds, StaysInPlan}
use Rattle.rehearsal.proofs.Tonight.{steps_on, answer_is, asks_at_limit, right_tonight}

-- what comes after a panel goes by the panel alone
after_more : (plan : List Panel) (start a b : ℕ) → after plan start (a + b) ≡ after plan (after plan start a) b
unfolding after
after_more plan start zero b =
    let e : 0 + b ≡ b = omega arith in
    ap (after plan start) e
after_more plan start (suc a) b =
    let e : suc a + b ≡ suc (a + b) = omega arith in
    ap (after plan start) e ∙ after_more plan (next plan start) a b

-- every panel of the circle asks, and so does each after it
asks_on : (plan : List Panel) (start n m : ℕ)
    → ((i : ℕ) → i < n + suc m → T (asks plan (after plan start i)))
    → after plan start (n + suc m) ≡ after plan start n
    → (turns i : ℕ) → i ≤ turns → T (asks plan (after plan start i))
asks_on plan start n m each back zero i h = each i (omega arith)
asks_on plan start n m each back (suc turns) i h =
    by_cases (ltb i (n + suc m))
    (λ t. each i (ltb-true _ _ t))
    (λ f. let round = n + suc m in
    let past : round ≤ i = ltb-false i round f in
    let k = i - round in
    let whole : round + k ≡ i = omega arith in
    let same : after plan start i ≡ after plan start (n + k) =
    ap (after plan start) (sym whole) ∙ after_more plan start round k ∙ ap (λ (p : ℕ). after plan p k) back
    ∙ sym (after_more plan start n k) in
    subst (λ (p : ℕ). T (asks plan p)) (sym same) (asks_on plan start n m each back turns (n + k) (omega arith)))

pub circle_ends : CircleEnds
circle_ends allowed plan start n m each back =
    let made = forwards allowed plan start in
    let q : asks plan (after plan start made) ≡ true = is_true _ (asks_on plan start n m each back made made (omega arith)) in
    rw (answer_is allowed plan start) (simp q, asks_at_limit allowed plan start q)

-- a panel that is as it should be forwards to none or into the plan
forwards_into : (panels : ℕ) (p : Panel) → T (panel_ok panels p) → forwards_to p ≤ panels
forwards_into panels p ok =
    let cfu = leb p.cfu panels in
    let cfb = leb p.cfb panels in
    let cfnr = leb p.cfnr panels in
    let three : T (cfu && cfb && cfnr) = and_l (cfu && cfb && cfnr) (leb p.busy 1) (and_l (cfu && cfb && cfnr && leb p.busy 1) (leb p.unattended 1) ok) in
    let two : T (cfu && cfb) = and_l (cfu && cfb) cfnr three in
    let within : ℕ → Type 0 = λ n. n ≤ panels in
    when_has within (given p.cfu) (λ t. leb-true _ _ (is_true _ (and_l cfu cfb two)))
    (λ t. when_has within (is_busy p) (λ t. leb-true _ _ (is_true _ (and_r cfu cfb two)))
    (λ t. when_has within (is_unattended p) (λ t. leb-true _ _ (is_true _ (and_r (cfu && cfb) cfnr three))) (λ t. omega arith)))

at_least_one : (n : ℕ) → T (given n) → 1 ≤ n
at_least_one zero t = absurd t
at_least_one (suc n) t = omega arith

-- a number in the plan has a panel of the plan
found_ok : (plan : List Panel) (p : Panel → Bool) (number : ℕ) → all p plan ≡ true → T (in_plan plan number) → p (panel_at plan number) ≡ true
unfolding panel_at
found_ok plan p zero each t = absurd t
found_ok plan p (suc k) each t =
    all_get p plan k no_panel each (leb-true (suc k) (length plan) (is_true _ (and_r (leb 1 (suc k)) (leb (suc k) (length plan)) t)))

next_in_plan : (plan : List Panel) (at : ℕ) → all (panel_ok (length plan)) plan ≡ true → T (in_plan plan at) → T (asks plan at) → T (in_plan plan (next plan at))
unfolding next
next_in_plan plan at each t wants =
    let to = next plan at in
    and_i (leb 1 to) (leb to (length plan)) (from_true _ (le-leb 1 to (at_least_one to wants)))
    (from_true _ (le-leb to (length plan) (forwards_into (length plan) (panel_at plan at) (from_true _ (found_ok plan (panel_ok (length plan)) at each t)))))

after_in_plan : (plan : List Panel) (start : ℕ) → all (panel_ok (length plan)) plan ≡ true → T (in_plan plan start)
    → (n : ℕ) → ((i : ℕ) → i < n → T (asks plan (after plan start i))) → T (in_plan plan (after plan start n))
unfolding after
after_in_plan plan start each t zero asked = t
after_in_plan plan start each t (suc n) asked =
    let h = after_in_plan plan start each t n (λ i l. asked i (omega arith)) in
    rw (steps_on plan start n) (next_in_plan plan (after plan start n) each h (asked n (omega arith)))

-- a call never leaves a plan that is as it should be
pub stays_in_plan : StaysInPlan
stays_in_plan plan start ok n h =
    let size = leb 1 (length plan) && leb (length plan) 256 in
    let each = all (panel_ok (length plan)) plan in
    let sized = and_l (size && in_plan plan start) each ok in
    after_in_plan plan start (is_true _ (and_r (size && in_plan plan start) each ok)) (and_r size (in_plan plan start) sized) n
    (λ i l. (right_tonight short_limit plan start).asked i (omega arith))
