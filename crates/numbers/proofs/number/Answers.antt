-- The code's order of the tests is the page's: `number_later`. Assumes nothing.
use mathlib.Core.Path.{◌≡◌, ◌∙◌}
use Rattle.std.proofs.lemmas.Result.{err_from_is_err_and}
use Rattle.ground.proofs.Ways.{asked}
use Rattle.event.specs.Refusals.{code_of}
use Rattle.numbers.proofs.Numbered.{later, by_state, past_state, number_later}
use Rattle.numbers.proofs.number.Goals as goal

pub returns-then-beyond-wrong : goal.returns-then-beyond-wrong
returns-then-beyond-wrong c =
    let a = c.args in
    let here : code_of c.no_record.result ≡ later a.s a.e a.seen = rw (← c.wrong_call-wrong.ensures, c.if-beyond-wrong.true, ← c.requires.0) c.no_record.ensures in
    here ∙ number_later a.s a.e a.seen _ c.requires

pub returns-in_err-state_number : goal.returns-in_err-state_number
returns-in_err-state_number c =
    let a = c.args in
    let p = err_from_is_err_and c.from_residual.result c.from_residual.ensures.1 in
    let state = by_state a.seen.call a.e _ _ c.in_err-state_number.ensures in
    let here : code_of c.from_residual.result ≡ later a.s a.e a.seen = rw (p.1, p.2, ← c.wrong_call-wrong.ensures, c.if-beyond-wrong.false) state in
    here ∙ number_later a.s a.e a.seen _ c.requires

pub returns-then-other_identifier : goal.returns-then-other_identifier
returns-then-other_identifier c =
    let a = c.args in
    let past = past_state a.seen.call a.e c.in_ok-state_number.ensures in
    let here : 6 ≡ later a.s a.e a.seen = rw (← c.wrong_call-wrong.ensures, c.if-beyond-wrong.false, past.0, past.1) (search asked depth 12) in
    here ∙ number_later a.s a.e a.seen _ c.requires

pub returns-then-over_limit : goal.returns-then-over_limit
returns-then-over_limit c =
    let a = c.args in
    let past = past_state a.seen.call a.e c.in_ok-state_number.ensures in
    let here : 7 ≡ later a.s a.e a.seen = rw (← c.wrong_call-wrong.ensures, c.if-beyond-wrong.false, past.0, past.1) (search asked depth 12) in
    here ∙ number_later a.s a.e a.seen _ c.requires

pub returns : goal.returns
returns c =
    let a = c.args in
    let past = past_state a.seen.call a.e c.in_ok-state_number.ensures in
    let here : 0 ≡ later a.s a.e a.seen = rw (← c.wrong_call-wrong.ensures, c.if-beyond-wrong.false, past.0, past.1) (search asked depth 12) in
    here ∙ number_later a.s a.e a.seen _ c.requires
