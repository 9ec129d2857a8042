-- Each arm by what its case notes.
use Rattle.survey.proofs.Arms.{open_is, incoming_is, waiting_is, outgoing_is, free_is}
use Rattle.survey.proofs.note_at.Goals as goal

pub returns-then-head-eq1 : goal.returns-then-head-eq1
returns-then-head-eq1 c =
    open_is c.args.q c.args.v _ _ _ c.read-head.ensures c.read-c.ensures c.args.k _ c.if-head-eq2.true c.if-head-eq1.true c.note_open.ensures

pub returns-else-head-eq1 : goal.returns-else-head-eq1
returns-else-head-eq1 c =
    incoming_is c.args.q c.args.v _ _ _ c.read-head.ensures c.read-c-else-head-eq1.ensures c.args.k _ c.if-head-eq2.true c.if-head-eq1.false
    (rw c.sound_incoming.ensures at c.with_soundness.ensures)

pub returns-then-head-eq1-3 : goal.returns-then-head-eq1-3
returns-then-head-eq1-3 c =
    waiting_is c.args.q c.args.v _ _ _ c.read-head.ensures c.read-c-then-head-eq1-3.ensures c.args.k _ c.if-head-eq1-2.true c.if-head-eq1-3.true
    (rw c.sound_waiting.ensures at c.with_soundness-then-head-eq1-3.ensures)

pub returns-else-head-eq1-3 : goal.returns-else-head-eq1-3
returns-else-head-eq1-3 c =
    outgoing_is c.args.q c.args.v _ _ _ c.read-head.ensures c.read-c-else-head-eq1-3.ensures c.args.k _ c.if-head-eq1-2.true c.if-head-eq1-3.false
    (rw c.sound_outgoing.ensures at c.with_soundness-else-head-eq1-3.ensures)

pub returns : goal.returns
returns c =
    free_is c.args.q c.args.v _ _ _ c.read-head.ensures c.read-c-2.ensures c.args.k _ c.if-head-eq2.false c.if-head-eq1-2.false c.note_free.ensures
