-- In the arm of a turn that is done, the record has a rule and a place. Assumes nothing.
use Rattle.std.proofs.Common.{refl, sym, arith}
use Rattle.turn.specs.Turn.{Done}
use Rattle.decision.proofs.Laws.{has_rule, there}
use Rattle.decision.proofs.decided_on.Goals as goal

pub acted-x-requires : goal.acted-x-requires
acted-x-requires c =
    let a = c.args in
    rw c.held-e.ensures
    (has_rule a.input a.v a.n a.p a.c c.in_bounds.result c.in_bounds.ensures c.place_seen-place.result c.place_seen-place.ensures
    Done (sym (rw (c.held-e.ensures, c.in-Ok-Record.field-0-is) at c.in-Ok-Record.ensures)) refl (omega (arith, c.well_formed)))

pub changed-requires : goal.changed-requires
changed-requires c =
    let a = c.args in
    let l = there a.input a.v a.n a.p a.c c.in_bounds.result c.in_bounds.ensures c.place_seen-place.result c.place_seen-place.ensures
    Done (sym (rw (c.held-e.ensures, c.in-Ok-Record.field-0-is) at c.in-Ok-Record.ensures)) in
    omega (arith, l, c.requires)
