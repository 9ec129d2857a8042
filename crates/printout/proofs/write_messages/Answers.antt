use borrow.Author.Tests.{ne_eqb}
use Rattle.digits.proofs.Texts.{wrote_then}
use Rattle.printout.proofs.write_messages.Goals as goal

pub returns-else-sent-eq0 : goal.returns-else-sent-eq0
returns-else-sent-eq0 c =
    let e = ne_eqb c.args.sent.first.letter 0 c.if-sent-eq0.false in
    rw e (rw e at (wrote_then (wrote_then c.write_message.ensures c.write_message-else-sent-eq0.ensures) c.write_message-else-sent-eq0-2.ensures))
