-- Identifier 0 in a result, an error or reject, and in an invoke that is received. Assumes nothing.
use mathlib.Core.Path.{◌≡◌, refl}
use mathlib.Core.Bool.{Bool, true, false, not, ◌||◌}
use lib.Dec.{T, eqb, eqb→eq}
use borrow.Author.Tests.{eqb-true}
use Rattle.ground.proofs.Bools.{from_false}
use Rattle.ground.proofs.Walks.{or_false, and_false}
use Rattle.event.specs.declared.Event.{Event}
use Rattle.event.specs.WellMade.{call_made, well_made}
use Rattle.event.specs.Identifiers.{ZeroIllMade, InvokeBearsAny}

-- by the kind
zero_seven : (e : Event) → e.kind ≡ 7 → e.identifier ≡ 0 → well_made e ≡ false
unfolding well_made call_made
zero_seven e q z = simp (q, z, and_false, or_false)

zero_eight : (e : Event) → e.kind ≡ 8 → e.identifier ≡ 0 → well_made e ≡ false
unfolding well_made call_made
zero_eight e q z = simp (q, z, and_false, or_false)

pub zero_ill_made : ZeroIllMade
zero_ill_made e t z = go (eqb e.kind 7) refl t
  where
    go : (b : Bool) → eqb e.kind 7 ≡ b → T (b || eqb e.kind 8) → T (not (well_made e))
    go true q g = from_false (well_made e) (zero_seven e (eqb-true e.kind 7 q) z)
    go false q g = from_false (well_made e) (zero_eight e (eqb→eq e.kind 8 g) z)

pub invoke_bears_any : InvokeBearsAny
unfolding well_made call_made
invoke_bears_any e identifier q = rw q refl
