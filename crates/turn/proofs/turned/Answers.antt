-- Refused, done on what the station holds, or done on the record, by the number. Assumes nothing.
use mathlib.Core.Path.{refl, sym, ◌∙◌}
use Rattle.std.proofs.lemmas.Result.{err_from_is_err_and}
use Rattle.event.specs.declared.Refusal.TheVariants.{IllMade}
use Rattle.numbers.proofs.Numbered.{number_ill, has_number}
use Rattle.turn.proofs.Turns.{turns_early, turns_refused, turns_far, turns_there}
use Rattle.turn.proofs.turned.Goals as goal

pub returns-then-e-s : goal.returns-then-e-s
returns-then-e-s c = let a = c.args in turns_early a.s a.e a.seen c.if-e-s.true

pub returns-then-not-well_made : goal.returns-then-not-well_made
returns-then-not-well_made c =
    let a = c.args in
    let ill = (sym c.well_made.ensures ∙ c.if-not-well_made.true) in
    turns_refused a.s a.e a.seen 3 (number_ill a.s a.e a.seen c.if-e-s.false ill) (has_number IllMade)

pub returns-in_err-number_by_kind : goal.returns-in_err-number_by_kind
returns-in_err-number_by_kind c =
    let a = c.args in
    let p = err_from_is_err_and c.from_residual.result c.from_residual.ensures.1 in
    rw (p.1, p.2) (turns_refused a.s a.e a.seen _ c.in_err-number_by_kind.ensures (has_number _))

pub returns-then-remote-none_due : goal.returns-then-remote-none_due
returns-then-remote-none_due c =
    let a = c.args in
    turns_far a.s a.e a.seen _ c.in_ok-number_by_kind.ensures refl c.if-remote-none_due.true

pub returns : goal.returns
returns c =
    let a = c.args in
    turns_there a.s a.e a.seen _ c.in_ok-number_by_kind.ensures refl c.if-remote-none_due.false
