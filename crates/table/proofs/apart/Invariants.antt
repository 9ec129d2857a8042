use mathlib.Core.Bool.{true}
use mathlib.Core.Path.{◌≡◌}
use lib.ListN.{drop, length}
use Rattle.ground.specs.Lists.{all}
use Rattle.table.specs.Column.{apart_in}
use Rattle.table.proofs.Marks.{marked}
use Rattle.table.proofs.apart.Given as goal

-- the numbers from k on are apart, and each has its mark
abbrev pub invariant-loop-k : goal.invariant-loop-k
invariant-loop-k l = record { wide : length l.marks ≡ 256; apart : apart_in (drop l.k l.held) ≡ true; marks : all (marked l.marks) (drop l.k l.held) ≡ true }
