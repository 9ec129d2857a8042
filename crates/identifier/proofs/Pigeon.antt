-- So many candidates in a row, each taken, want as many open requests. Assumes nothing.
use Rattle.std.proofs.Common.{◌≡◌, ℕ, zero, suc, ◌<◌, ◌≤◌, Bool, true, false, ◌||◌, T, eqb, List, [], ◌∷◌, length, sym, refl, ap, ◌∙◌, suc-le-suc, zero-le, arith, eqb→eq}
use Rattle.ground.specs.Choice.{when◌then◌else◌}
use Rattle.ground.specs.Lists.{any}
use Rattle.ground.proofs.Bools.{or_right}
use Rattle.identifier.specs.Identifier.{after, taken}
use Rattle.identifier.specs.Statements.{candidate}
use Rattle.identifier.proofs.After.{not_again}

-- the list without the first place of k
abbrev without : ℕ → List ℕ → List ℕ
without k [] = []
without k (x ∷ xs) = when eqb k x then xs else x ∷ without k xs

or_map : (a b c : Bool) → (T b → T c) → T (a || b) → T (a || c)
or_map true b c g h = h
or_map false b c g h = g h

shorter : (k : ℕ) (held : List ℕ) → T (taken held k) → length held ≡ suc (length (without k held))
unfolding any
shorter k [] h = absurd h
shorter k (x ∷ xs) h = go (eqb k x) h (shorter k xs)
  where
    go : (b : Bool) → T (b || taken xs k) → (T (taken xs k) → length xs ≡ suc (length (without k xs)))
        → suc (length xs) ≡ suc (length (when b then xs else x ∷ without k xs))
    go true g ih = refl
    go false g ih = ap suc (ih g)

-- another identifier is still taken
still : (j k : ℕ) (held : List ℕ) → (j ≡ k → ⊥) → T (taken held j) → T (taken (without k held) j)
unfolding any
still j k [] n h = h
still j k (x ∷ xs) n h = go (eqb k x) (λ b a. n (eqb→eq j x a ∙ sym (eqb→eq k x b))) (still j k xs n)
  where
    go : (b : Bool) → (T b → T (eqb j x) → ⊥) → (T (taken xs j) → T (taken (without k xs) j)) → T (taken (when b then xs else x ∷ without k xs) j)
    go true f ih = or_right (eqb j x) (taken xs j) (f tt) h
    go false f ih = or_map (eqb j x) (taken xs j) (taken (without k xs) j) ih h

-- the pigeonhole
pub crowded : (n k : ℕ) (held : List ℕ) → n ≤ 65535 → ((i : ℕ) → i < n → T (taken held (candidate k i))) → n ≤ length held
unfolding candidate
crowded zero k held b f = zero-le
crowded (suc n) k held b f =
    let s = shorter k held (f 0 (suc-le-suc zero-le)) in
    let l = crowded n (after k) (without k held) (omega arith)
    (λ i h. still (candidate (after k) i) k held (not_again k i (omega arith)) (f (suc i) (suc-le-suc h))) in
    omega arith
