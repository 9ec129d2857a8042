-- A list whose beginning is another's, and the column with one record more. Assumes nothing.
use Prim.Native.Nat.{ℕ, zero, suc, ◌+◌, ◌<◌}
use mathlib.Core.List.{List, [], ◌∷◌, map}
use mathlib.Core.Path.{◌≡◌, refl, sym, ap, ◌∙◌}
use native.Mathlib.Nat.{le_of_suc-le-suc, not-suc-le-zero}
use native.Mathlib.Omega.{arith}
use native.Mathlib.Numerals.{add-one}
use lib.ListN.{length, get_or, set}
use Rattle.call.specs.declared.Call.{Call}
use Rattle.call.specs.Record.{free_call}
use Rattle.draw.specs.Column.{over, held_by, frees, column_of}

module _ {A : Type 0} where
  over_suc : (new old : List A) (i : ℕ) (d : A) → i < length new → i < length old → set (over i new old) i (get_or new i d) ≡ over (suc i) new old
  over_suc [] old i d h k = absurd (not-suc-le-zero h)
  over_suc (x ∷ xs) [] i d h k = absurd (not-suc-le-zero k)
  over_suc (x ∷ xs) (y ∷ ys) zero d h k = refl
  over_suc (x ∷ xs) (y ∷ ys) (suc i) d h k = rw (over_suc xs ys i d (le_of_suc-le-suc h) (le_of_suc-le-suc k))

  pub over_next : (new old : List A) (i : ℕ) (d : A) → i < length new → i < length old → set (over i new old) i (get_or new i d) ≡ over (i + 1) new old
  over_next new old i d h k = rw add-one (over_suc new old i d h k)

  pub over_at : (new old : List A) (i : ℕ) (d : A) → i < length new → i < length old → get_or (over i new old) i d ≡ get_or old i d
  over_at [] old i d h k = absurd (not-suc-le-zero h)
  over_at (x ∷ xs) [] i d h k = absurd (not-suc-le-zero k)
  over_at (x ∷ xs) (y ∷ ys) zero d h k = refl
  over_at (x ∷ xs) (y ∷ ys) (suc i) d h k = over_at xs ys i d (le_of_suc-le-suc h) (le_of_suc-le-suc k)

  pub over_length : (new old : List A) (i : ℕ) → length new ≡ length old → length (over i new old) ≡ length old
  over_length new old zero e = refl
  over_length [] [] (suc i) e = refl
  over_length [] (y ∷ ys) (suc i) e = absurd (omega (arith, e))
  over_length (x ∷ xs) [] (suc i) e = absurd (omega (arith, e))
  over_length (x ∷ xs) (y ∷ ys) (suc i) e = rw (over_length xs ys i (omega (arith, e)))

pub map_set : {A B : Type 0} (f : A → B) (l : List A) (i : ℕ) (x : A) → map f (set l i x) ≡ set (map f l) i (f x)
map_set f [] i x = refl
map_set f (y ∷ ys) zero x = refl
map_set f (y ∷ ys) (suc i) x = ap (λ r. f y ∷ r) (map_set f ys i x)

-- the column with one record more
pub column_next : (calls : List Call) (i : ℕ) → i < length calls → i < 64 → set (column_of i calls) i (held_by (get_or calls i free_call)) ≡ column_of (i + 1) calls
column_next calls i h k = sym (map_set held_by (over i calls frees) i (get_or calls i free_call)) ∙ ap (map held_by) (over_next calls frees i free_call h k)
