-- The records from k on were seen: what is noted of them, the marks that they set, and how often one was set again.
use Rattle.std.proofs.Common.{◌≡◌}
use Rattle.survey.proofs.Walk.{seen, set_by, twice_by}
use Rattle.survey.proofs.survey.Given as goal

abbrev pub invariant-loop-k : goal.invariant-loop-k
invariant-loop-k l = record {
  noted : l.v ≡ seen l.q l.n l.table l.k;
  marked : l.marks ≡ (set_by l.q l.n l.table l.k).1;
  counted : l.twice ≡ twice_by l.q l.n l.table l.k;
}
