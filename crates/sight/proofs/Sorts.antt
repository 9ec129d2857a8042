-- What the kind of a well-made event tells of it. Assumes nothing.
use Prim.Native.Nat.{ℕ, suc, ◌≤◌, ◌<◌}
use mathlib.Core.Bool.{true, false, ◌||◌, false≢true}
use mathlib.Core.Path.{◌≡◌, sym, ◌∙◌}
use native.Mathlib.Omega.{arith}
use borrow.Author.Tests.{ne_eqb, le-leb, ltb-true, ltb-false, eqb-true, eqb-false}
use lib.Dec.{eqb, ltb}
use Rattle.ground.proofs.Bools.{by_cases}
use Rattle.event.specs.declared.Event.{Event}
use Rattle.event.specs.Kinds.{of_incoming, of_outgoing, ends}
use Rattle.event.specs.Remote.{of_remote}
use Rattle.event.specs.WellMade.{call_made, well_made}
use Rattle.event.proofs.Groups.{incoming, far_end, past_incoming, outgoing}

past : (k m : ℕ) → m ≤ k → (k ≡ m → ⊥) → suc m ≤ k
past k m h n = omega (arith, h, n)

-- none of 1 to 15
pub past_table : (k : ℕ) → 1 ≤ k
    → (k ≡ 1 → ⊥) → (k ≡ 2 → ⊥) → (k ≡ 3 → ⊥) → (k ≡ 4 → ⊥) → (k ≡ 5 → ⊥) → (k ≡ 6 → ⊥) → (k ≡ 7 → ⊥) → (k ≡ 8 → ⊥)
    → (k ≡ 9 → ⊥) → (k ≡ 10 → ⊥) → (k ≡ 11 → ⊥) → (k ≡ 12 → ⊥) → (k ≡ 13 → ⊥) → (k ≡ 14 → ⊥) → (k ≡ 15 → ⊥) → 16 ≤ k
past_table k l n1 n2 n3 n4 n5 n6 n7 n8 n9 n10 n11 n12 n13 n14 n15 =
    past k 15 (past k 14 (past k 13 (past k 12 (past k 11 (past k 10 (past k 9 (past k 8 (past k 7 (past k 6 (past k 5 (past k 4 (past k 3 (past k 2 (past k 1 l n1) n2) n3) n4) n5) n6) n7) n8) n9) n10) n11) n12) n13) n14) n15

module _ (e : Event) where
  pub no_kind : e.kind ≡ 0 → well_made e ≡ false
  unfolding well_made call_made
  no_kind q = rw q

  -- no kind of the table, nor of 16 to 31
  pub no_row : of_remote e ≡ false → 15 < e.kind → well_made e ≡ false
  unfolding well_made call_made
  no_row o h =
      simp (
        o,
        ne_eqb e.kind 1 (λ q. omega arith),
        ne_eqb e.kind 2 (λ q. omega arith),
        ne_eqb e.kind 3 (λ q. omega arith),
        ne_eqb e.kind 4 (λ q. omega arith),
        ne_eqb e.kind 5 (λ q. omega arith),
        ne_eqb e.kind 6 (λ q. omega arith),
        ne_eqb e.kind 7 (λ q. omega arith),
        ne_eqb e.kind 8 (λ q. omega arith),
        ne_eqb e.kind 9 (λ q. omega arith),
        ne_eqb e.kind 10 (λ q. omega arith),
        ne_eqb e.kind 11 (λ q. omega arith),
        ne_eqb e.kind 12 (λ q. omega arith),
        ne_eqb e.kind 13 (λ q. omega arith),
        ne_eqb e.kind 14 (λ q. omega arith),
        ne_eqb e.kind 15 (λ q. omega arith),
      )

  pub kind_low : well_made e ≡ true → 1 ≤ e.kind
  kind_low w = by_cases (eqb e.kind 0) (λ q. absurd (false≢true (sym (no_kind (eqb-true e.kind 0 q)) ∙ w))) (λ q. let n = eqb-false e.kind 0 q in omega arith)

  pub kind_high : of_remote e ≡ false → well_made e ≡ true → e.kind ≤ 15
  kind_high o w = by_cases (ltb 15 e.kind) (λ q. absurd (false≢true (sym (no_row o (ltb-true 15 e.kind q)) ∙ w))) (λ q. ltb-false 15 e.kind q)

  pub far_kind : 16 ≤ e.kind → e.kind < 32 → of_remote e ≡ true
  far_kind l h = simp (le-leb 16 e.kind l, le-leb e.kind 31 (omega arith))

  -- an event that neither opens nor is a clock names a call
  pub names : 4 ≤ e.kind → e.kind ≤ 15 → (e.kind ≡ 10 → ⊥) → of_incoming e || of_outgoing e || ends e ≡ true
  names l h n =
      by_cases (ltb e.kind 10) (λ q. simp (incoming e l (ltb-true e.kind 10 q))) (λ q.
      let m = ltb-false e.kind 10 q in
      by_cases (eqb e.kind 11) (λ r. rw (eqb-true e.kind 11 r)) (λ r.
      let o = eqb-false e.kind 11 r in
      by_cases (eqb e.kind 15) (λ t. simp (far_end e (eqb-true e.kind 15 t))) (λ t.
      let p = eqb-false e.kind 15 t in
      simp (past_incoming e m p, outgoing e (omega arith) (omega arith)))))
