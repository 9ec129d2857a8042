use Rattle.std.proofs.Common.{arith}
use borrow.Author.Tests.{eq-eqb, ne_eqb}
use Rattle.digits.specs.Digits.{characters_of}
use Rattle.digits.proofs.Texts.{wrote_then, wrote_at_most}
use Rattle.planlines.proofs.write_answer.Goals as goal

pub returns-then-a-eq0 : goal.returns-then-a-eq0
returns-then-a-eq0 c =
    let w = wrote_then (wrote_then c.write_outcome.ensures c.write_way.ensures) c.put.ensures in
    rw (eq-eqb c.args.a.code 0 c.if-a-eq0.true) (wrote_at_most w (omega arith))

pub returns-else-a-eq0 : goal.returns-else-a-eq0
unfolding characters_of
returns-else-a-eq0 c =
    let w = wrote_then c.decimal.ensures c.put_bytes.ensures in
    rw (ne_eqb c.args.a.code 0 c.if-a-eq0.false) (wrote_at_most w (omega arith))
