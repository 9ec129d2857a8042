-- Reading goes on where it stopped. Assumes nothing.
use Prim.Native.Nat.{ℕ, ◌+◌, ◌≤◌, ◌<◌}
use mathlib.Core.List.{List}
use mathlib.Core.Path.{◌≡◌, refl, ◌∙◌}
use native.Mathlib.Numerals.{add-one}
use native.Mathlib.Omega.{arith}
use lib.ListN.{length, drop, get_or, drop_of_length-le}
use lib.Seq.{drop-cons}
use Rattle.plantext.specs.declared.Reading.{Reading}
use Rattle.plantext.specs.Text.{byte_read, stored, text_read, plan_after}

-- what was read, and what is left of the text, make the whole
pub record Midway (r : Reading) (bytes plan₀ : List ℕ) (next : Reading) (plan : List ℕ) (i : ℕ) : Type 0 where
  pub upto : i ≤ length bytes
  pub same : length plan ≡ length plan₀
  pub reading : text_read next (drop i bytes) ≡ text_read r bytes
  pub panels : plan_after next (drop i bytes) plan ≡ plan_after r bytes plan₀

module _ (r : Reading) (bytes plan₀ : List ℕ) where
  pub midway_start : Midway r bytes plan₀ r plan₀ 0
  midway_start = record { upto = omega arith; same = refl; reading = refl; panels = refl }

  module _ (next : Reading) (plan : List ℕ) (i : ℕ) (w : Midway r bytes plan₀ next plan i) where
    pub midway_next : (next' : Reading) (plan' : List ℕ) → i < length bytes → length plan' ≡ length plan
        → next' ≡ byte_read next (get_or bytes i 0) → plan' ≡ stored next (get_or bytes i 0) plan
        → Midway r bytes plan₀ next' plan' (i + 1)
    unfolding text_read plan_after
    midway_next next' plan' h s p q = record {
      upto = omega arith;
      same = s ∙ w.same;
      reading = rw (p, add-one) (rw (drop-cons bytes i 0 h) at w.reading);
      panels = rw (p, q, add-one) (rw (drop-cons bytes i 0 h) at w.panels);
    }

    pub midway_end : length bytes ≤ i → (next ≡ text_read r bytes) × (plan ≡ plan_after r bytes plan₀)
    unfolding text_read plan_after
    midway_end h = (rw (drop_of_length-le bytes h) at w.reading, rw (drop_of_length-le bytes h) at w.panels)
