-- What each case of `note_at` notes is what is noted of the record. Assumes nothing.
use Rattle.std.proofs.Common.{◌≡◌, ℕ, ◌∙◌}
use borrow.Author.Tests.{eq-eqb, ne_eqb}
use Rattle.call.specs.declared.Call.{Call}
use Rattle.sound.specs.Cases.{incoming_by, waiting_by, outgoing_by}
use Rattle.sound.proofs.Cases.{sound_open, sound_incoming_lem, sound_waiting, sound_outgoing_lem, sound_free}
use Rattle.survey.specs.declared.Asked.{Asked}
use Rattle.survey.specs.declared.Passed.{Passed}
use Rattle.survey.specs.Survey.{passed_with, with_soundness, passed_open, passed_free}

-- d is what was tested, c what is noted, and both are the record r
module _ (q : Asked) (v : Passed) (d c r : Call) (e₁ : d ≡ r) (e₂ : c ≡ r) (k : ℕ) (t : Passed) where
  pub open_is : d.direction ≡ 2 → d.cds ≡ 1 → t ≡ passed_open q v c k → t ≡ passed_with q v r k
  open_is s p h =
      let n : r.direction ≡ 2 = rw (← e₁) s in
      let y = eq-eqb r.cds 1 (rw (← e₁) p) in
      h ∙ rw (e₂, sound_open q.last r (eq-eqb r.direction 2 n) y, n, y)

  pub incoming_is : d.direction ≡ 2 → (d.cds ≡ 1 → ⊥) → t ≡ with_soundness v (incoming_by c) → t ≡ passed_with q v r k
  incoming_is s p h =
      let n : r.direction ≡ 2 = rw (← e₁) s in
      let f = ne_eqb r.cds 1 (rw (← e₁) p) in
      h ∙ rw (e₂, sound_incoming_lem q.last r (eq-eqb r.direction 2 n) f, n, f)

  pub waiting_is : d.direction ≡ 1 → d.cdr ≡ 1 → t ≡ with_soundness v (waiting_by c) → t ≡ passed_with q v r k
  waiting_is s p h =
      let n : r.direction ≡ 1 = rw (← e₁) s in
      h ∙ rw (e₂, sound_waiting q.last r (eq-eqb r.direction 1 n) (eq-eqb r.cdr 1 (rw (← e₁) p)), n)

  pub outgoing_is : d.direction ≡ 1 → (d.cdr ≡ 1 → ⊥) → t ≡ with_soundness v (outgoing_by c) → t ≡ passed_with q v r k
  outgoing_is s p h =
      let n : r.direction ≡ 1 = rw (← e₁) s in
      h ∙ rw (e₂, sound_outgoing_lem q.last r (eq-eqb r.direction 1 n) (ne_eqb r.cdr 1 (rw (← e₁) p)), n)

  pub free_is : (d.direction ≡ 2 → ⊥) → (d.direction ≡ 1 → ⊥) → t ≡ passed_free v c k → t ≡ passed_with q v r k
  free_is s p h =
      let i = ne_eqb r.direction 2 (rw (← e₁) s) in
      h ∙ rw (e₂, sound_free q.last r i (ne_eqb r.direction 1 (rw (← e₁) p)), i)
