-- A call that is offered to a panel: the panel keeps it, or forwards it on. Assumes nothing.
use Prim.Native.Nat.{ℕ, zero, suc, ◌+◌, ◌-◌}
use mathlib.Core.Path.{◌≡◌, refl, sym, ap, ◌∙◌}
use mathlib.Core.Bool.{true, false, not}
use mathlib.Core.List.{List}
use native.Mathlib.Omega.{arith}
use borrow.Author.Tests.{ne_eqb}
use Rattle.ground.proofs.Ways.{isnt}
use Rattle.rehearsal.specs.declared.Panel.{Panel}
use Rattle.rehearsal.specs.declared.Rehearsed.{Rehearsed}
use Rattle.rehearsal.specs.Plan.{panel_at, given, next, asks, after}
use Rattle.rehearsal.specs.Rehearsal.{at_limit, kept_as, ending_at, ended, forwards, offered, forwarded}

keeps : (n : ℕ) → n ≡ 0 → given n ≡ false
keeps n e = ap given e

wants : (n : ℕ) → (n ≡ 0 → ⊥) → given n ≡ true
wants n f = ap not (ne_eqb n 0 f)

-- one that does not ask makes no forward, however many are left
pub no_forward : (left : ℕ) (plan : List Panel) (at : ℕ) → asks plan at ≡ false → forwards left plan at ≡ 0
unfolding forwards
no_forward zero plan at q = refl
no_forward (suc left) plan at q = simp q

ended_same : (last ending ending' n counter : ℕ) → ending ≡ ending' → n ≡ 0 → ended last ending counter ≡ ended last ending' (counter + n)
ended_same last ending ending' n counter p q = let e : counter + n ≡ counter = omega arith in rw (e, p) refl

pub kept_here : (plan : List Panel) (at left counter : ℕ) → next plan at ≡ 0
    → ended at (kept_as (panel_at plan at)) counter ≡ offered plan at left counter
unfolding offered after
kept_here plan at left counter e =
    let q = keeps (next plan at) e in
    let n = no_forward left plan at q in
    rw n (ended_same at (kept_as (panel_at plan at)) (ending_at plan at) 0 counter (simp q) refl)

-- the answer after so many forwards from a panel
abbrev after_so_many : List Panel → ℕ → ℕ → ℕ → Rehearsed
after_so_many plan at counter n = ended (after plan at n) (ending_at plan (after plan at n)) (counter + n)

-- one forward is one less left and one more behind
pub one_forward : (plan : List Panel) (at left counter : ℕ) → asks plan at ≡ true
    → offered plan (next plan at) left (counter + 1) ≡ offered plan at (suc left) counter
unfolding offered after forwards
one_forward plan at left counter q =
    let m = forwards left plan (next plan at) in
    let s : forwards (suc left) plan at ≡ suc m = simp q in
    let c : counter + 1 + m ≡ counter + suc m = omega arith in
    ap (λ (n : ℕ). ended (after plan (next plan at) m) (ending_at plan (after plan (next plan at) m)) n) c
    ∙ ap (after_so_many plan at counter) (sym s)

pub forwarded_on_lem : (plan : List Panel) (at to left counter : ℕ) → to ≡ next plan at → (to ≡ 0 → ⊥)
    → forwarded plan at to left counter ≡ offered plan at left counter
unfolding offered after forwards
forwarded_on_lem plan at to zero counter e f =
    let q : asks plan at ≡ true = ap given (sym e) ∙ wants to f in
    ended_same at at_limit (ending_at plan at) 0 counter (simp q) refl
forwarded_on_lem plan at to (suc left) counter e f =
    let q : asks plan at ≡ true = ap given (sym e) ∙ wants to f in
    let l : suc left - 1 ≡ left = omega arith in
    sym (isnt (suc left) 0 (offered plan to (suc left - 1) (counter + 1)) (ended at at_limit counter) _ (λ z. omega arith) refl)
    ∙ ap (λ (n : ℕ). offered plan to n (counter + 1)) l
    ∙ ap (λ (n : ℕ). offered plan n left (counter + 1)) e
    ∙ one_forward plan at left counter q
