use mathlib.Core.Path.{sym, ◌∙◌}
use Rattle.marks.specs.Marks.{with_request}
use Rattle.marks.proofs.Laws.{four_idle_lem}
use Rattle.marks.proofs.told.Goals as goal

-- mostly none of the four waits
pub returns-then-four_idle : goal.returns-then-four_idle
returns-then-four_idle c =
    let a = c.args in
    rw (c.is_marked-marked.ensures, four_idle_lem (a.clash, a.marks) a.p (sym c.four_idle.ensures ∙ c.if-four_idle.true))

-- where one does, each sets its mark
pub returns : goal.returns
unfolding with_request
returns c =
    let fourth = c.mark-check.ensures in
    let third = c.mark-interrogation.ensures in
    let second = c.mark-deactivation.ensures in
    let one = c.mark-activation.ensures in
    rw (c.is_marked.ensures, fourth.0, fourth.1, third.0, third.1, second.0, second.1, one.0, one.1)
