use Rattle.ground.proofs.Ways.{ways}
use Rattle.sound.proofs.Cases.{call_by}
use Rattle.sound.proofs.sound_call.Goals as goal

pub returns-then-c-eq1 : goal.returns-then-c-eq1
returns-then-c-eq1 c = rw (call_by _ _) (search ways)

pub returns-then-direction-eq2 : goal.returns-then-direction-eq2
returns-then-direction-eq2 c = rw (call_by _ _) (search ways)

pub returns-then-c-eq1-2 : goal.returns-then-c-eq1-2
returns-then-c-eq1-2 c = rw (call_by _ _) (search ways)

pub returns-then-direction-eq1 : goal.returns-then-direction-eq1
returns-then-direction-eq1 c = rw (call_by _ _) (search ways)

pub returns : goal.returns
returns c = rw (call_by _ _) (search ways)
