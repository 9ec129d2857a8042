-- The pieces of a line, in the order in which they are written. Assumes nothing.
use Prim.Native.Nat.{ℕ, suc, ◌^◌, ◌≤◌, ◌<◌}
use mathlib.Core.List.{List, ◌++◌, append_assoc}
use mathlib.Core.Path.{◌≡◌}
use native.Mathlib.Omega.{arith}
use lib.Dec.{eqb}
use lib.ListN.{length}
use Rattle.ground.proofs.Bools.{by_cases}
use Rattle.notice.specs.Notice.{no_notice, no_number}
use Rattle.call.specs.Messages.{no_identifier, no_counter}
use Rattle.station.specs.declared.Answer.{Answer}
use Rattle.station.specs.Station.{no_call}
use Rattle.digits.specs.Digits.{decimal, space, newline}
use Rattle.digits.proofs.Digits.{decimal_within}
use Rattle.printout.specs.Line.{column, messages, line}

pub column_within : (k none n : ℕ) → n < 10 ^ suc k → length (space ++ column none n) ≤ suc (suc k)
column_within k none n h = by_cases (eqb n none) (λ t. rw t (omega arith)) (λ f. rw f (omega (arith, decimal_within k n h)))

module _ (none n : ℕ) where
  pub column_8 : n < 256 → length (space ++ column none n) ≤ 4
  column_8 h = column_within 2 none n (omega arith)

  pub column_16 : n < 65536 → length (space ++ column none n) ≤ 6
  column_16 h = column_within 4 none n (omega arith)

  pub column_32 : n < 2 ^ 32 → length (space ++ column none n) ≤ 11
  column_32 h = column_within 9 none n (omega arith)

-- a line in its three parts
regrouped : (p b c x y z i k m e : List ℕ)
    → p ++ b ++ c ++ (b ++ x ++ (b ++ y) ++ (b ++ z)) ++ (b ++ i ++ (b ++ k) ++ b ++ m ++ e)
    ≡ p ++ b ++ c ++ b ++ x ++ b ++ y ++ b ++ z ++ b ++ i ++ b ++ k ++ b ++ m ++ e
regrouped p b c x y z i k m e = simp append_assoc

pub line_parts : (position : ℕ) (a : Answer)
    → decimal position ++ space ++ decimal a.code
    ++ (space ++ column no_call a.call ++ (space ++ column no_notice a.notice) ++ (space ++ column no_number a.number))
    ++ (space ++ column no_identifier a.identifier ++ (space ++ column no_counter a.counter) ++ space ++ messages a.sent ++ newline)
    ≡ line position a
unfolding line
line_parts position a =
    regrouped (decimal position) space (decimal a.code) (column no_call a.call) (column no_notice a.notice) (column no_number a.number)
    (column no_identifier a.identifier) (column no_counter a.counter) (messages a.sent) newline
