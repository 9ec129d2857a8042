-- Four numbers to a panel: where a panel stands, and how many there are. Assumes nothing.
use Prim.Native.Nat.{ℕ, zero, suc, ◌+◌, ◌-◌, ◌*◌, ◌/◌, ◌%◌, ◌≤◌, ◌<◌}
use mathlib.Core.Path.{◌≡◌, refl, sym, ap, ◌∙◌}
use mathlib.Core.List.{List, [], ◌∷◌}
use mathlib.Core.Bool.{Bool, true, false, ◌&&◌, not, false≢true}
use native.Mathlib.Omega.{arith}
use native.Mathlib.Numerals.{unary_clauses, add-one}
use lib.ListN.{length, get_or, get_or-eq_default}
use lib.Dec.{eqb, leb}
use borrow.Author.Tests.{leb-true}
use Rattle.ground.specs.Lists.{all}
use Rattle.ground.proofs.Bools.{upheld}
use Rattle.ground.proofs.Walks.{both}
use Rattle.rehearsal.specs.declared.Panel.{Panel}
use Rattle.rehearsal.specs.Plan.{panel_of, panels_of, no_panel, panel_at, panel_ok, plan_ok}

four_more : (k : ℕ) → suc k * 4 ≡ suc (suc (suc (suc (k * 4))))
four_more k = omega arith

quarter : (n : ℕ) → suc (suc (suc (suc n))) / 4 ≡ suc (n / 4)
quarter n = omega arith

pub panels_long : (l : List ℕ) → length (panels_of l) ≡ length l / 4
unfolding panels_of
panels_long [] = refl
panels_long (a ∷ []) = refl
panels_long (a ∷ b ∷ []) = refl
panels_long (a ∷ b ∷ c ∷ []) = refl
panels_long (a ∷ b ∷ c ∷ d ∷ l) = ap suc (panels_long l) ∙ sym (quarter (length l))

-- the panel whose four numbers start at a place
abbrev pub panel_from : List ℕ → ℕ → Panel
panel_from l i = panel_of (get_or l i 0) (get_or l (i + 1) 0) (get_or l (i + 2) 0) (get_or l (i + 3) 0)

pub panel_stands : (l : List ℕ) (k : ℕ) → k < length (panels_of l) → get_or (panels_of l) k no_panel ≡ panel_from l (k * 4)
unfolding panels_of
panel_stands [] k h = absurd (omega arith)
panel_stands (a ∷ []) k h = absurd (omega arith)
panel_stands (a ∷ b ∷ []) k h = absurd (omega arith)
panel_stands (a ∷ b ∷ c ∷ []) k h = absurd (omega arith)
panel_stands (a ∷ b ∷ c ∷ d ∷ l) zero h = refl
panel_stands (a ∷ b ∷ c ∷ d ∷ l) (suc k) h =
    let e = panel_stands l k (omega arith) in
    rw four_more (simp unary_clauses (simp unary_clauses at e))

-- no panel has the number 0, nor one past the last
pub none_at_zero : (plan : List Panel) (number : ℕ) → number ≡ 0 → no_panel ≡ panel_at plan number
unfolding panel_at
none_at_zero plan number e = rw e refl

pub none_past : (l : List ℕ) (number : ℕ) → length l / 4 < number → no_panel ≡ panel_at (panels_of l) number
unfolding panel_at
none_past l zero h = refl
none_past l (suc k) h = sym (get_or-eq_default (panels_of l) no_panel (omega (arith, panels_long l)))

pub found_at : (l : List ℕ) (number : ℕ) → (number ≡ 0 → ⊥) → number ≤ length l / 4 → panel_from l ((number - 1) * 4) ≡ panel_at (panels_of l) number
unfolding panel_at
found_at l zero z h = absurd (z refl)
found_at l (suc k) z h =
    let e : suc k - 1 ≡ k = omega arith in
    rw e (sym (panel_stands l k (omega (arith, panels_long l))))

-- the panel that follows the first i
pub place_is : (plan : List Panel) (i : ℕ) → panel_at plan (i + 1) ≡ get_or plan i no_panel
unfolding panel_at
place_is plan i = rw add-one refl

regrouped : (a b c d e f : Bool) → a && (b && c && (d && e) && f) ≡ (a && b && c && d && e) && f
regrouped true true true true e f = refl
regrouped true true true false e f = refl
regrouped true true false d e f = refl
regrouped true false c d e f = refl
regrouped false b c d e f = refl

-- how many numbers there are, and the start's place among the panels
abbrev pub shape_ok : List ℕ → ℕ → Bool
shape_ok l start = eqb (length l % 4) 0 && leb 1 (length l / 4) && leb (length l / 4) 256 && leb 1 start && leb start (length l / 4)

-- the test of a plan is that of its shape, and then of each panel
pub shape_then_panels : (l : List ℕ) (start : ℕ)
    → eqb (length l % 4) 0 && plan_ok (panels_of l) start ≡ shape_ok l start && all (panel_ok (length l / 4)) (panels_of l)
shape_then_panels l start = rw (panels_long l) (regrouped (eqb (length l % 4) 0) (leb 1 (length l / 4)) (leb (length l / 4) 256) (leb 1 start) (leb start (length l / 4)) _)

pub shape_small : (l : List ℕ) (start : ℕ) → shape_ok l start ≡ true → length l / 4 ≤ 256
shape_small l start s =
    let a = eqb (length l % 4) 0 && leb 1 (length l / 4) in
    let b = leb (length l / 4) 256 in
    leb-true _ _ (both a b (both (a && b) (leb 1 start) (both (a && b && leb 1 start) _ s).0).0).1

pub not_shaped : (s f : Bool) → not s ≡ true → false ≡ s && f
not_shaped true f e = absurd (false≢true e)
not_shaped false f e = refl

pub shaped : (s f : Bool) → s ≡ true → f ≡ s && f
shaped s f e = simp e

pub upheld_is : (s : Bool) → not s ≡ false → s ≡ true
upheld_is s e = upheld s s refl e
