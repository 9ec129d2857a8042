-- Which events may bear identifier 0 (document 02, Three). The theorems are in proofs/Identifiers.
use Rattle.std.specs.Prelude.{ℕ, ◌≡◌, not, T}
use Rattle.event.specs.declared.Event.{Event}
use Rattle.event.specs.Kinds.{ReroutingInvoke, answers_request}
use Rattle.event.specs.Fields.{identifier_is}
use Rattle.event.specs.WellMade.{well_made}

-- "a kind 7 or 8 event with identifier 0 is 3": it is not well made
abbrev pub ZeroIllMade : Type 0
ZeroIllMade = (e : Event) → T (answers_request e) → e.identifier ≡ 0 → T (not (well_made e))

-- "Received invokes may still bear 0": any identifier will do
abbrev pub InvokeBearsAny : Type 0
InvokeBearsAny = (e : Event) (identifier : ℕ) → e.kind ≡ ReroutingInvoke → well_made (identifier_is identifier e) ≡ well_made e
