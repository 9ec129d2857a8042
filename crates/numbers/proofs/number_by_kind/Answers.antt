-- An arm of kinds 16 to 31, and those of no kind: such an event is not well made. Assumes nothing.
use Rattle.std.proofs.Common.{◌≡◌, ◌≤◌, ◌<◌, ◌∙◌, arith}
use borrow.Author.Tests.{lt-leb}
use Rattle.ground.proofs.Walks.{and_false}
use Rattle.sight.proofs.Sorts.{no_kind, no_row, far_kind}
use Rattle.numbers.proofs.Numbered.{number_far, number_ill}
use Rattle.numbers.proofs.number_by_kind.Goals as goal

pub returns-in-16-to-31 : goal.returns-in-16-to-31
returns-in-16-to-31 c =
    let a = c.args in
    let low : 16 ≤ a.e.kind = omega arith in
    let high : a.e.kind < 32 = omega arith in
    c.remote_refusal.ensures ∙ number_far a.s a.e a.seen c.requires.0 c.requires.1 (far_kind a.e low high)

-- beneath 1
pub returns-in_default : goal.returns-in_default
returns-in_default c =
    let a = c.args in
    let none : a.e.kind ≡ 0 = omega arith in
    number_ill a.s a.e a.seen c.requires.0 (no_kind a.e none)

-- past 31
pub returns-in_default-2 : goal.returns-in_default-2
returns-in_default-2 c =
    let a = c.args in
    let high : 32 ≤ a.e.kind = omega arith in
    number_ill a.s a.e a.seen c.requires.0 (no_row a.e (simp (lt-leb a.e.kind 31 (omega arith), and_false)) (omega arith))
