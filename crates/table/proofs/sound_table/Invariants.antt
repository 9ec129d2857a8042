use mathlib.Core.Bool.{true}
use mathlib.Core.Path.{◌≡◌}
use lib.ListN.{take}
use Rattle.ground.specs.Lists.{all}
use Rattle.call.specs.Soundness.{sound_call}
use Rattle.draw.specs.Column.{column_of}
use Rattle.table.proofs.sound_table.Given as goal

-- the first i records are sound, and their identifiers stand in the column
abbrev pub invariant-loop-i : goal.invariant-loop-i
invariant-loop-i l = record { sound : all (sound_call l.last) (take l.i l.calls) ≡ true; told : l.held ≡ column_of l.i l.calls }
