-- The identifier drawn is the first free one from the next on, small and not 0. Assumes nothing.
use Rattle.std.proofs.Common.{◌≡◌, ℕ, zero, suc, ◌<◌, ◌≤◌, Bool, true, false, T, List, sym, refl, ap, ◌∙◌, suc-le-suc, zero-le, le_of_suc-le-suc, not-suc-le-zero, arith}
use Rattle.ground.proofs.Bools.{when_has}
use Rattle.identifier.specs.Identifier.{after, taken, first_free, candidates, drawn}
use Rattle.identifier.specs.Statements.{candidate, First, Free, DrawsFirst, OnlyFirst, DrawsSmall, DrawsThere}
use Rattle.identifier.proofs.After.{after_there, after_small}
use Rattle.identifier.proofs.Pigeon.{crowded}

-- the search of so many candidates: where it stops, that all before are taken, and that what it gives is taken only past them all
record Searched (more next : ℕ) (held : List ℕ) : Type 0 where
  steps : ℕ
  is : first_free more held next ≡ candidate next steps
  before : (i : ℕ) → i < steps → T (taken held (candidate next i))
  stops : T (taken held (first_free more held next)) → more ≤ steps

searched : (more next : ℕ) (held : List ℕ) → Searched more next held
unfolding first_free candidate
searched zero next held = record { steps = 0; is = refl; before = λ i h. absurd (not-suc-le-zero h); stops = λ t. zero-le }
searched (suc more) next held = go (taken held next) refl (searched more (after next) held)
  where
    go : (b : Bool) → taken held next ≡ b → Searched more (after next) held → Searched (suc more) next held
    go true e s = record { steps = suc s.steps; is = rw e s.is; before = later; stops = λ t. suc-le-suc (s.stops (rw e at t)) }
      where
        later : (i : ℕ) → i < suc s.steps → T (taken held (candidate next i))
        later zero h = rw e tt
        later (suc i) h = s.before i (le_of_suc-le-suc h)
    go false e s = record { steps = 0; is = rw e refl; before = λ i h. absurd (not-suc-le-zero h); stops = λ t. absurd (untaken (rw e at t)) }
      where
        untaken : T (taken held next) → ⊥
        untaken t = rw e at t

pub free : Free
free held next few t =
    let s = searched candidates next held in
    let l = s.stops t in
    let c = crowded candidates next held (omega arith) (λ i h. s.before i (omega arith)) in
    omega arith

pub first : DrawsFirst
first held next few =
    let s = searched candidates next held in
    record { steps = s.steps; is = s.is; before = s.before; free = free held next few }

-- a first free one cannot lie past another
same_steps : (held : List ℕ) (next x y : ℕ) (f : First held next x) (g : First held next y) → f.steps < g.steps → ⊥
same_steps held next x y f g h = f.free (rw f.is (g.before f.steps h))

pub only : OnlyFirst
only held next identifier few f =
    let g = first held next few in
    let h : f.steps < g.steps → ⊥ = same_steps held next identifier (drawn held next) f g in
    let k : g.steps < f.steps → ⊥ = same_steps held next (drawn held next) identifier g f in
    let e : f.steps ≡ g.steps = omega (arith, h, k) in
    f.is ∙ ap (candidate next) e ∙ sym g.is

first_small : (more next : ℕ) (held : List ℕ) → next < 65536 → first_free more held next < 65536
unfolding first_free
first_small zero next held h = h
first_small (suc more) next held h =
    let l = first_small more (after next) held (after_small next) in
    when_has (λ x. x < 65536) (taken held next) (λ t. l) (λ t. h)

pub drawn_small : DrawsSmall
drawn_small held next h = first_small candidates next held h

first_there : (more next : ℕ) (held : List ℕ) → (next ≡ 0 → ⊥) → first_free more held next ≡ 0 → ⊥
unfolding first_free
first_there zero next held n = n
first_there (suc more) next held n =
    let l = first_there more (after next) held (after_there next) in
    when_has (λ x. x ≡ 0 → ⊥) (taken held next) (λ t. l) (λ t. n)

pub drawn_there : DrawsThere
drawn_there held next n = first_there candidates next held n
