-- The way, one panel after the other. Assumes nothing.
use Prim.Native.Nat.{ℕ, suc, ◌+◌, ◌-◌, ◌*◌, ◌≤◌, ◌<◌}
use mathlib.Core.List.{List, [], ◌++◌, append_assoc}
use mathlib.Core.Path.{◌≡◌, refl}
use native.Mathlib.Omega.{arith}
use lib.ListN.{length}
use Rattle.digits.specs.declared.Text.{Text}
use Rattle.digits.specs.Digits.{decimal}
use Rattle.digits.specs.Text.{Wrote}
use Rattle.digits.proofs.Digits.{wrote_16}
use Rattle.digits.proofs.Texts.{wrote_nothing, wrote_then, wrote_at_most}
use Rattle.rehearsal.specs.declared.Panel.{Panel}
use Rattle.rehearsal.specs.Plan.{panel_at, reason_of, forwards_to, next}
use Rattle.planlines.specs.Lines.{step_text, way}

-- what is written of so many panels, and the way that is left, make the whole
pub record Underway (plan : List Panel) (start forwards : ℕ) (old new : Text) (panel gone : ℕ) : Type 0 where
  pub left : ℕ
  pub count : gone + left ≡ forwards
  pub done : List ℕ
  pub text : Wrote (gone * 11) done old new
  pub whole : done ++ way plan panel left ≡ way plan start forwards

module _ {plan : List Panel} {start forwards : ℕ} {old : Text} where
  pub underway_start : old.at ≤ length old.out.now → Underway plan start forwards old old start 0
  underway_start h = record { left = forwards; count = omega arith; done = []; text = wrote_nothing old h; whole = refl }

  module _ {new new' : Text} {panel gone : ℕ} (w : Underway plan start forwards old new panel gone) where
    pub underway_next : {p : Panel} {reason panel' : ℕ} → gone < forwards → p ≡ panel_at plan panel → reason ≡ reason_of p → panel' ≡ forwards_to p
        → Wrote 11 (step_text panel reason) new new' → Underway plan start forwards old new' panel' (gone + 1)
    unfolding next way
    underway_next {reason = reason} h p q f t =
        let e : w.left ≡ suc (w.left - 1) = omega (arith, w.count) in
        let more = wrote_then w.text t in
        record {
          left = w.left - 1;
          count = omega (arith, w.count);
          done = w.done ++ step_text panel reason;
          text = wrote_at_most more (omega (arith, more.upper_bound));
          whole = rw (append_assoc w.done (step_text panel reason), f, q, p) (rw e at w.whole);
        }

    pub underway_end : forwards ≤ gone → panel < 65536 → Wrote 20 (decimal panel) new new' → Wrote (forwards * 11 + 5) (way plan start forwards) old new'
    unfolding way
    underway_end h f t =
        let e : w.left ≡ 0 = omega (arith, w.count) in
        let g : gone ≡ forwards = omega (arith, w.count) in
        rw (← w.whole, e, ← g) (wrote_then w.text (wrote_16 t f))
