use Rattle.std.proofs.Common.{arith}
use borrow.Author.Tests.{ne_eqb}
use Rattle.digits.proofs.Texts.{wrote_at_most}
use Rattle.digits.specs.Digits.{characters_of}
use Rattle.planlines.proofs.write_reason.Goals as goal

pub returns-in-1 : goal.returns-in-1
unfolding characters_of
returns-in-1 c = rw c.in-1.is (wrote_at_most c.put_bytes.ensures (omega arith))

pub returns-in-2 : goal.returns-in-2
unfolding characters_of
returns-in-2 c = rw c.in-2.is (wrote_at_most c.put_bytes-in-2.ensures (omega arith))

pub returns-in_default : goal.returns-in_default
unfolding characters_of
returns-in_default c = rw (ne_eqb c.args.reason 1 (λ e. omega arith), ne_eqb c.args.reason 2 (λ e. omega arith)) c.put_bytes-in_default.ensures
