-- More than 256 panels are refused. Assumes nothing.
use Prim.Native.Nat.{ℕ, ◌/◌, ◌<◌, min}
use mathlib.Core.List.{List}
use mathlib.Core.Path.{◌≡◌}
use native.Mathlib.Omega.{arith}
use lib.ListN.{length, take, length-take}
use Rattle.ground.proofs.Bools.{by_cases}
use Rattle.ground.proofs.Walks.{both}
use Rattle.ground.specs.Lists.{all}
use Rattle.rehearsal.specs.Plan.{panels_of, panel_ok}
use Rattle.rehearsal.specs.Rehearsal.{refusal, is_plan, rehearsal_of}
use Rattle.rehearsal.proofs.Panels.{shape_ok, shape_then_panels, shape_small}
use Rattle.plantext.specs.Text.{numbers_lent}
use Rattle.plantext.specs.Statements.{TooLongRefused}

-- numbers of more than 256 panels are no plan
no_plan : (numbers : List ℕ) (start : ℕ) → 256 < length numbers / 4 → rehearsal_of numbers start ≡ refusal
no_plan numbers start h =
    by_cases (is_plan numbers start)
    (λ t.
    let s = both (shape_ok numbers start) (all (panel_ok (length numbers / 4)) (panels_of numbers)) (rw shape_then_panels at t) in
    absurd (omega (arith, shape_small numbers start s.0)))
    (λ f. rw f)

pub too_long_refused : TooLongRefused
too_long_refused r plan start room h =
    let lent = numbers_lent r (length plan) in
    let long : length (take lent plan) ≡ min lent (length plan) = length-take lent plan in
    no_plan (take lent plan) start (omega arith)
