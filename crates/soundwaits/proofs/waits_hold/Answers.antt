use Rattle.ground.proofs.Ways.{ways, asked}
use Rattle.soundwaits.proofs.Places.{waits_by}
use Rattle.soundwaits.proofs.waits_hold.Goals as goal

pub returns-then-not-first_holds : goal.returns-then-not-first_holds
returns-then-not-first_holds c = rw (waits_by _) (search (ways, asked))

pub returns-then-w-eq0 : goal.returns-then-w-eq0
returns-then-w-eq0 c = rw (waits_by _) (search (ways, asked))

pub returns-else-w-eq0 : goal.returns-else-w-eq0
returns-else-w-eq0 c = rw (waits_by _) (search (ways, asked))
