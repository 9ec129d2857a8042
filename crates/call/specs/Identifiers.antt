-- Where identifier 0 may stand (document 02, Three). The theorems are in proofs/Identifiers.
use Rattle.std.specs.Prelude.{ℕ, ◌≡◌, ◌⊎◌, T}
use Rattle.event.specs.declared.Event.{Event}
use Rattle.event.specs.Kinds.{ReroutingInvoke}
use Rattle.call.specs.declared.Call.{Call}
use Rattle.call.specs.declared.Effect.{Effect}
use Rattle.call.specs.Record.{requested}
use Rattle.call.specs.Soundness.{sound_call}
use Rattle.call.specs.Messages.{letter_r, letter_e}
use Rattle.call.specs.Act.{act}

-- "an open request with 0 .. is 1": no sound record has one
abbrev pub RequestThere : Type 0
RequestThere = (last : ℕ) (c : Call) → T (sound_call last c) → T (requested c) → c.identifier ≡ 0 → ⊥

-- "Received invokes may still bear 0 and it is echoed": by the first message, R or E, the result or error, and by the answer
pub record Echoes (e : Event) (x : Effect) : Type 0 where
  pub letter : (x.sent.first.letter ≡ letter_r) ⊎ (x.sent.first.letter ≡ letter_e)
  pub message : x.sent.first.identifier ≡ e.identifier
  pub answer : x.identifier ≡ e.identifier

abbrev pub InvokeEchoes : Type 0
InvokeEchoes = (c : Call) (e : Event) (identifier : ℕ) → e.kind ≡ ReroutingInvoke → Echoes e (act c e identifier)
