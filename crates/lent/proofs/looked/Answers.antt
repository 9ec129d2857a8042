use Rattle.std.proofs.Common.{◌∙◌, length}
use Rattle.lent.proofs.Laws.{short, looked_is}
use Rattle.lent.proofs.looked.Goals as goal

pub survey-v-requires : goal.survey-v-requires
survey-v-requires c = (short (length c.args.table.now) c.fit-n.result c.fit-n.ensures).0

pub record_at-c-requires : goal.record_at-c-requires
record_at-c-requires c = (short (length c.args.table.now) c.fit-n.result c.fit-n.ensures).0

pub picked-p-requires : goal.picked-p-requires
picked-p-requires c = short (length c.args.table.now) c.fit-n.result c.fit-n.ensures

pub decided_on-requires : goal.decided_on-requires
decided_on-requires c = (short (length c.args.table.now) c.fit-n.result c.fit-n.ensures).1

pub returns : goal.returns
returns c =
    let a = c.args in
    c.decided_on.ensures ∙ looked_is a.input a.table.now c.fit-n.result c.survey-v.result c.place_seen-place.result c.record_at-c.result c.picked-p.result c.fit-n.ensures (rw c.asked-q.ensures at c.survey-v.ensures) c.place_seen-place.ensures c.record_at-c.ensures c.picked-p.ensures
