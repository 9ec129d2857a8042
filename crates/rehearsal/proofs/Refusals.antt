-- The answer is 3 exactly for what the page refuses, and else the right one. Assumes nothing.
use Prim.Native.Nat.{ℕ, suc, ◌%◌, ◌<◌}
use mathlib.Core.Path.{◌≡◌, refl, sym, ◌∙◌}
use mathlib.Core.Bool.{Bool, true, false, ◌&&◌, false≢true}
use mathlib.Core.Logic.{◌↔◌}
use mathlib.Core.List.{List, [], ◌∷◌}
use native.Mathlib.Omega.{arith}
use lib.Dec.{eqb, leb}
use lib.ListN.{length, get_or}
use borrow.Author.Tests.{eqb-false, leb-false, lt-leb, ne_eqb}
use Rattle.ground.specs.Choice.{when◌then◌else◌}
use Rattle.ground.specs.Lists.{all}
use Rattle.ground.proofs.Bools.{by_cases}
use Rattle.ground.proofs.Walks.{and_false, all_get}
use Rattle.station.specs.Station.{short_limit}
use Rattle.rehearsal.specs.declared.Panel.{Panel}
use Rattle.rehearsal.specs.declared.Rehearsed.{Rehearsed}
use Rattle.rehearsal.specs.Plan.{no_panel, panels_of, in_plan, panel_ok}
use Rattle.rehearsal.specs.Rehearsal.{refusal, rehearsed, is_plan}
use Rattle.rehearsal.specs.Statements.{Faulty, cfu_outside, cfb_outside, cfnr_outside, busy_above, unattended_above, Refused, not_fours, empty, over_long, start_absent, start_outside, panel_faulty, AnswersTonight, RefusedExactly}
use Rattle.rehearsal.proofs.Tonight.{right_tonight}

-- of two tests that don't both hold, the first fails or the second
split : (a b : Bool) {P : Type 0} → a && b ≡ false → (a ≡ false → P) → (b ≡ false → P) → P
split true b e p q = q e
split false b e p q = p refl

-- a panel fails its test exactly if it is faulty
faulty_of : (panels : ℕ) (p : Panel) → panel_ok panels p ≡ false → Faulty panels p
faulty_of panels p e =
    let over : (m n : ℕ) → leb m n ≡ false → n < m = λ m n f. leb-false m n f in
    split _ _ e
    (λ e. split _ _ e
    (λ e. split _ _ e
    (λ e. split _ _ e (λ f. cfu_outside (over _ _ f)) (λ f. cfb_outside (over _ _ f)))
    (λ f. cfnr_outside (over _ _ f)))
    (λ f. busy_above (over _ _ f)))
    (λ f. unattended_above (over _ _ f))

of_faulty : (panels : ℕ) (p : Panel) → Faulty panels p → panel_ok panels p ≡ false
of_faulty panels p (cfu_outside h) = simp (lt-leb _ _ h)
of_faulty panels p (cfb_outside h) = simp (lt-leb _ _ h, and_false)
of_faulty panels p (cfnr_outside h) = simp (lt-leb _ _ h, and_false)
of_faulty panels p (busy_above h) = simp (lt-leb _ _ h, and_false)
of_faulty panels p (unattended_above h) = simp (lt-leb _ _ h, and_false)

-- where not all pass, one fails
record Fails {A : Type 0} (p : A → Bool) (l : List A) (d : A) : Type 0 where
  place : ℕ
  there : place < length l
  fails : p (get_or l place d) ≡ false

some_fails : {A : Type 0} (p : A → Bool) (l : List A) (d : A) → all p l ≡ false → Fails p l d
unfolding all
some_fails p [] d e = absurd (false≢true (sym e))
some_fails p (x ∷ xs) d e =
    split (p x) (all p xs) e
    (λ f. record { place = 0; there = omega arith; fails = f })
    (λ f. let w = some_fails p xs d f in record { place = suc w.place; there = omega arith; fails = w.fails })

refused_of : (numbers : List ℕ) (start : ℕ) → is_plan numbers start ≡ false → Refused numbers start
refused_of numbers start e =
    let plan = panels_of numbers in
    let n = length plan in
    split (eqb (length numbers % 4) 0) _ e (λ f. not_fours (eqb-false _ _ f))
    (λ e. split (leb 1 n && leb n 256 && in_plan plan start) (all (panel_ok n) plan) e
    (λ e. split (leb 1 n && leb n 256) (in_plan plan start) e
    (λ e. split (leb 1 n) (leb n 256) e (λ f. empty (leb-false 1 n f)) (λ f. over_long (leb-false n 256 f)))
    (λ e. split (leb 1 start) (leb start n) e (λ f. start_absent (leb-false 1 start f)) (λ f. start_outside (leb-false start n f))))
    (λ f. let w = some_fails (panel_ok n) plan no_panel f in panel_faulty w.place w.there (faulty_of n _ w.fails)))

of_refused : (numbers : List ℕ) (start : ℕ) → Refused numbers start → is_plan numbers start ≡ false
of_refused numbers start (not_fours f) = simp (ne_eqb (length numbers % 4) 0 f)
of_refused numbers start (empty h) = simp (lt-leb 1 (length (panels_of numbers)) h, and_false)
of_refused numbers start (over_long h) = simp (lt-leb (length (panels_of numbers)) 256 h, and_false)
of_refused numbers start (start_absent h) = simp (lt-leb 1 start h, and_false)
of_refused numbers start (start_outside h) = simp (lt-leb start (length (panels_of numbers)) h, and_false)
of_refused numbers start (panel_faulty place h w) =
    let plan = panels_of numbers in
    let ok = panel_ok (length plan) in
    let one : all ok plan ≡ false = by_cases (all ok plan)
    (λ t. absurd (false≢true (sym (of_faulty (length plan) (get_or plan place no_panel) w) ∙ all_get ok plan place no_panel t h)))
    (λ f. f) in
    simp (one, and_false)

refused_by : (b : Bool) (x : Rehearsed) → x.code ≡ 0
    → (((when b then x else refusal).code ≡ 3) ↔ (b ≡ false)) × ((when b then x else refusal).code ≡ 3 → (when b then x else refusal) ≡ refusal)
refused_by true x e = (((λ h. absurd (omega arith)), (λ f. absurd (false≢true (sym f)))), (λ h. absurd (omega arith)))
refused_by false x e = (((λ h. refl), (λ f. refl)), (λ h. refl))

pub refused_exactly : RefusedExactly
refused_exactly numbers start =
    let w = refused_by (is_plan numbers start) (rehearsed short_limit (panels_of numbers) start) (right_tonight short_limit (panels_of numbers) start).done in
    (((λ h. refused_of numbers start (w.0.0 h)), (λ r. w.0.1 (of_refused numbers start r))), w.1)

pub answers_tonight : AnswersTonight
answers_tonight numbers start taken =
    by_cases (is_plan numbers start)
    (λ t. rw t (right_tonight short_limit (panels_of numbers) start))
    (λ f. absurd (taken (rw f refl)))
