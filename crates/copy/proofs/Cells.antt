-- The column has 64 places. Assumes nothing.
use mathlib.Core.Path.{◌≡◌, refl, ap, ◌∙◌}
use Prim.Native.Nat.{ℕ, zero, suc, ◌≤◌}
use native.Mathlib.Nat.{le_of_suc-le-suc, not-suc-le-zero}
use mathlib.Core.List.{List, ◌∷◌, []}
use lib.ListN.{length, length-map}
use Rattle.call.specs.declared.Call.{Call}
use Rattle.draw.specs.Column.{over, held_by, frees, column_of}

over_length : (i : ℕ) (new old : List Call) → i ≤ length new → i ≤ length old → length (over i new old) ≡ length old
over_length zero new old h k = refl
over_length (suc i) [] old h k = absurd (not-suc-le-zero h)
over_length (suc i) (a ∷ new) [] h k = absurd (not-suc-le-zero k)
over_length (suc i) (a ∷ new) (b ∷ old) h k = ap suc (over_length i new old (le_of_suc-le-suc h) (le_of_suc-le-suc k))

pub held_length : (i : ℕ) (l : List Call) → i ≤ length l → i ≤ 64 → length (column_of i l) ≡ 64
held_length i l h k = length-map (over i l frees) held_by ∙ over_length i l frees h k
