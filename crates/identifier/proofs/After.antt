-- The number after an identifier, and the round that its candidates make: 65,535 numbers without 0. Assumes nothing.
use Rattle.std.proofs.Common.{◌≡◌, ℕ, zero, suc, ◌+◌, ◌-◌, ◌%◌, ◌<◌, eqb, ltb, sym, refl, ◌∙◌, le_of_suc-le-suc, arith, ltb-false, ltb-true, eqb-true}
use borrow.Author.Tests.{eqb-false}
use Rattle.ground.proofs.Bools.{by_cases}
use Rattle.identifier.specs.Identifier.{after}
use Rattle.identifier.specs.Statements.{Follows, AfterThere, AfterSmall, candidate, CandidatesApart, ComesAgain}

follows_last : after 65535 ≡ 1
follows_last = refl

-- where the sum gives 0, and where not
after_cases : (k : ℕ) {P : Type 0} → ((k + 1) % 65536 ≡ 0 → after k ≡ 1 → P) → (((k + 1) % 65536 ≡ 0 → ⊥) → after k ≡ (k + 1) % 65536 → P) → P
after_cases k f g =
    let sum = (k + 1) % 65536 in
    by_cases (eqb sum 0) (λ t. f (eqb-true sum 0 t) (rw t refl)) (λ t. g (eqb-false sum 0 t) (rw t refl))

follows_others : (k : ℕ) → k < 65535 → after k ≡ k + 1
follows_others k h = after_cases k (λ e p. omega arith) (λ n p. omega arith)

pub follows : Follows
follows = record { last = follows_last; others = follows_others }

pub after_there : AfterThere
after_there k z = after_cases k (λ e p. omega arith) (λ n p. n (omega arith))

pub after_small : AfterSmall
after_small k = after_cases k (λ e p. omega arith) (λ n p. omega arith)

-- the numbers 1 to 65,535 follow each other in a round
after_round : (k : ℕ) → k < 65536 → after k ≡ k % 65535 + 1
after_round k h =
    by_cases (ltb k 65535) (λ t. follows_others k (ltb-true k 65535 t) ∙ omega (arith, ltb-true k 65535 t))
    (λ t. let e : k ≡ 65535 = omega (arith, ltb-false k 65535 t) in rw e refl)

candidate_round : (k i : ℕ) → k < 65535 → candidate (k + 1) i ≡ (k + i) % 65535 + 1
unfolding candidate
candidate_round k zero h = omega arith
candidate_round k (suc i) h = rw (after_round (k + 1) (omega arith)) (candidate_round ((k + 1) % 65535) i (omega arith) ∙ sums)
  where
    sums : ((k + 1) % 65535 + i) % 65535 + 1 ≡ (k + suc i) % 65535 + 1
    sums = omega arith

-- the candidates after one, from the number after it on
after_candidate : (k i : ℕ) → candidate (after k) i ≡ ((after k - 1) + i) % 65535 + 1
after_candidate k i =
    let s = candidate_round (after k - 1) i (omega (arith, after_small k)) in
    let e : after k - 1 + 1 ≡ after k = omega (arith, after_there k) in
    rw e at s

-- none of the 65,534 after k is k again; a first one that is 0 or past 65,535 never comes again
pub not_again : (k i : ℕ) → i < 65534 → candidate (after k) i ≡ k → ⊥
not_again k i h e =
    let s = after_candidate k i in
    let l : k < 65536 = omega arith in
    let r = after_round k l in
    omega arith

apart_from : (k i j : ℕ) → i < j → j < 65535 → candidate k i ≡ candidate k j → ⊥
unfolding candidate
apart_from k zero zero h l e = elim h [ ]
apart_from k (suc i) zero h l e = elim h [ ]
apart_from k zero (suc j) h l e = not_again k j (omega arith) (sym e)
apart_from k (suc i) (suc j) h l e = apart_from (after k) i j (le_of_suc-le-suc h) (omega arith) e

pub candidates_apart : CandidatesApart
candidates_apart k i j h l e =
    let f : i < j → ⊥ = λ g. apart_from k i j g l e in
    let g : j < i → ⊥ = λ g. apart_from k j i g h (sym e) in
    omega (arith, f, g)

pub comes_again : ComesAgain
comes_again k n h =
    let s = candidate_round (k - 1) 65535 (omega (arith, n)) in
    let e : k - 1 + 1 ≡ k = omega (arith, n) in
    (rw e at s) ∙ omega (arith, n)

-- a number that equals one which is not 0
pub not_either : (k sum : ℕ) → sum ≡ k → (sum ≡ 0 → ⊥) → k ≡ 0 → ⊥
not_either k sum q n z = n (q ∙ z)
