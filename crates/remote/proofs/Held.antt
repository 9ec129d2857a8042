-- What is read of a place after another was put there, for the four requests and the three destinations. Assumes nothing.
use Prim.Native.Nat.{ℕ, zero, suc, ◌≤◌, ◌<◌}
use native.Mathlib.Omega.{arith}
use mathlib.Core.Path.{◌≡◌, refl, ◌∙◌}
use mathlib.Core.Bool.{Bool, true, false}
use lib.ListN.{get_or, set}
use Rattle.ground.specs.Choice.{when◌then◌else◌}
use Rattle.ground.specs.Lists.{first}
use Rattle.event.specs.Remote.{activation, deactivation, interrogation, check}
use Rattle.timed.specs.declared.Pending.{Pending}
use Rattle.timed.specs.Timed.{due, t2, t3to5, no_timer}
use Rattle.remote.specs.declared.Pendings.{Pendings}
use Rattle.remote.specs.declared.Kept.{Kept}
use Rattle.remote.specs.Kinds.{length_of}
use Rattle.remote.specs.Held.{pending_of, with_pending, kept_for, with_kept, timers_of, no_sort, first_due}

-- a sort is one of four, a type one of three
pub four : (P : ℕ → Type 0) → P 0 → P 1 → P 2 → P 3 → (k : ℕ) → k < 4 → P k
four P a b c d zero h = a
four P a b c d (suc zero) h = b
four P a b c d (suc (suc zero)) h = c
four P a b c d (suc (suc (suc zero))) h = d
four P a b c d (suc (suc (suc (suc k)))) h = absurd (omega arith)

pub three : (P : ℕ → Type 0) → P 1 → P 2 → P 3 → (k : ℕ) → 1 ≤ k → k ≤ 3 → P k
three P a b c zero l h = absurd (omega arith)
three P a b c (suc zero) l h = a
three P a b c (suc (suc zero)) l h = b
three P a b c (suc (suc (suc zero))) l h = c
three P a b c (suc (suc (suc (suc k)))) l h = absurd (omega arith)

module _ (p : Pending) (q : Pendings) where
  pub put_here : (k : ℕ) → k < 4 → pending_of k (with_pending k p q) ≡ p
  put_here = four (λ k. pending_of k (with_pending k p q) ≡ p) refl refl refl refl

  pub put_there : (k : ℕ) → k < 4 → (j : ℕ) → j < 4 → (j ≡ k → ⊥) → pending_of j (with_pending k p q) ≡ pending_of j q
  put_there =
      let P : ℕ → ℕ → Type 0 = λ k j. (j ≡ k → ⊥) → pending_of j (with_pending k p q) ≡ pending_of j q in
      four (λ k. (j : ℕ) → j < 4 → P k j)
      (four (P 0) (λ n. absurd (n refl)) (λ n. refl) (λ n. refl) (λ n. refl))
      (four (P 1) (λ n. refl) (λ n. absurd (n refl)) (λ n. refl) (λ n. refl))
      (four (P 2) (λ n. refl) (λ n. refl) (λ n. absurd (n refl)) (λ n. refl))
      (four (P 3) (λ n. refl) (λ n. refl) (λ n. refl) (λ n. absurd (n refl)))

  -- the four as a list
  pub timers_put : (k : ℕ) → k < 4 → timers_of (with_pending k p q) ≡ set (timers_of q) k (record { length = length_of k; request = p })
  timers_put = four (λ k. timers_of (with_pending k p q) ≡ set (timers_of q) k (record { length = length_of k; request = p })) refl refl refl refl

pub timers_at : (q : Pendings) (k : ℕ) → k < 4 → get_or (timers_of q) k no_timer ≡ record { length = length_of k; request = pending_of k q }
timers_at q = four (λ k. get_or (timers_of q) k no_timer ≡ record { length = length_of k; request = pending_of k q }) refl refl refl refl

first_of : (a b c d : Bool) → (when a then 0 else when b then 1 else when c then 2 else when d then 3 else 4)
    ≡ (when a then 0 else suc (when b then 0 else suc (when c then 0 else suc (when d then 0 else 1))))
first_of true b c d = refl
first_of false true c d = refl
first_of false false true d = refl
first_of false false false true = refl
first_of false false false false = refl

-- the first that is due, read off their tests one after the other
pub due_in_turn : (time : ℕ) (q : Pendings) (n : ℕ)
    → n
    ≡ (when due t2 time q.activation then activation else when due t3to5 time q.deactivation then deactivation else when due t3to5 time q.interrogation then interrogation else when due t3to5 time q.check then check else no_sort)
    → n ≡ first_due time q
unfolding first
due_in_turn time q n e = e ∙ first_of (due t2 time q.activation) (due t3to5 time q.deactivation) (due t3to5 time q.interrogation) (due t3to5 time q.check)

module _ (number : ℕ) (k : Kept) where
  pub kept_here : (type : ℕ) → 1 ≤ type → type ≤ 3 → kept_for type (with_kept type number k) ≡ number
  kept_here = three (λ type. kept_for type (with_kept type number k) ≡ number) refl refl refl

  pub kept_there : (type : ℕ) → 1 ≤ type → type ≤ 3 → (other : ℕ) → 1 ≤ other → other ≤ 3 → (other ≡ type → ⊥)
      → kept_for other (with_kept type number k) ≡ kept_for other k
  kept_there =
      let P : ℕ → ℕ → Type 0 = λ type other. (other ≡ type → ⊥) → kept_for other (with_kept type number k) ≡ kept_for other k in
      three (λ type. (other : ℕ) → 1 ≤ other → other ≤ 3 → P type other)
      (three (P 1) (λ n. absurd (n refl)) (λ n. refl) (λ n. refl))
      (three (P 2) (λ n. refl) (λ n. absurd (n refl)) (λ n. refl))
      (three (P 3) (λ n. refl) (λ n. refl) (λ n. absurd (n refl)))
