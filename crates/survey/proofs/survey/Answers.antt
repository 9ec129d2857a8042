-- Each turn notes one more record, and marks its request where it is open.
use Rattle.std.proofs.Common.{◌≡◌, ◌≤◌, ◌-◌, ◌+◌, ap, ◌∙◌, arith, Bool, List, ℕ}
use lib.ListN.{get_or}
use Rattle.marks.specs.Marks.{word_of}
use Rattle.survey.specs.Survey.{any_twice}
use Rattle.survey.proofs.Walk.{set_by, twice_by, twice_any, twice_few, twice_none, seen_none, set_none, seen_next, set_open, set_else, twice_open, twice_else}
use Rattle.survey.proofs.survey.Goals as goal

pub loop-k-init : goal.loop-k-init
loop-k-init c =
    let a = c.args in
    record {
      noted = c.unseen-v.ensures ∙ seen_none a.q a.n a.table.now;
      marked = ap (λ (m : Bool × List ℕ). m.1) (set_none a.q a.n a.table.now);
      counted = twice_none a.q a.n a.table.now;
    }

pub overflow_add-twice : goal.overflow_add-twice
overflow_add-twice c =
    let a = c.args in
    let l = c.loop-k in
    let one : 1 ≤ l.k = omega arith in
    let within : l.k ≤ a.n = omega arith in
    let e = c.note_at-v.ensures ∙ rw l.invariant.noted (seen_next a.q a.n a.table.now l.k one within c.requires) in
    let word : get_or l.marks c.word_of-w.result 0 ≡ get_or (set_by a.q a.n a.table.now l.k).1 (word_of c.in-Some.identifier) 0 = rw (l.invariant.marked, c.word_of-w.ensures) in
    let more : l.twice + c.count_in-twice.result ≡ twice_by a.q a.n a.table.now (l.k - 1)
    = rw (l.invariant.counted, c.count_in-twice.ensures, word) (twice_open a.q a.n a.table.now l.k one within c.requires c.note_at-v.result e c.in-Some.identifier c.in-Some.is) in
    record { fits = omega (arith, more, twice_few a.q a.n a.table.now (l.k - 1), c.ranges.n.fits) }

pub loop-k-preserved-in-Some : goal.loop-k-preserved-in-Some
loop-k-preserved-in-Some c =
    let a = c.args in
    let l = c.loop-k in
    let one : 1 ≤ l.k = omega arith in
    let within : l.k ≤ a.n = omega arith in
    let e = c.note_at-v.ensures ∙ rw l.invariant.noted (seen_next a.q a.n a.table.now l.k one within c.requires) in
    let word : get_or l.marks c.word_of-w.result 0 ≡ get_or (set_by a.q a.n a.table.now l.k).1 (word_of c.in-Some.identifier) 0 = rw (l.invariant.marked, c.word_of-w.ensures) in
    record {
      noted = e;
      marked = rw (c.put_in.ensures, word, l.invariant.marked, c.word_of-w.ensures) (ap (λ (m : Bool × List ℕ). m.1) (set_open a.q a.n a.table.now l.k one within c.requires _ e _ c.in-Some.is));
      counted = rw (l.invariant.counted, c.count_in-twice.ensures, word) (twice_open a.q a.n a.table.now l.k one within c.requires _ e _ c.in-Some.is);
    }

pub loop-k-preserved : goal.loop-k-preserved
loop-k-preserved c =
    let a = c.args in
    let l = c.loop-k in
    let one : 1 ≤ l.k = omega arith in
    let within : l.k ≤ a.n = omega arith in
    let e = c.note_at-v.ensures ∙ rw l.invariant.noted (seen_next a.q a.n a.table.now l.k one within c.requires) in
    record {
      noted = e;
      marked = l.invariant.marked ∙ ap (λ (m : Bool × List ℕ). m.1) (set_else a.q a.n a.table.now l.k one within c.requires _ e c.in_default.is);
      counted = l.invariant.counted ∙ twice_else a.q a.n a.table.now l.k one within c.requires _ e c.in_default.is;
    }

pub returns : goal.returns
returns c =
    let a = c.args in
    let l = c.loop-k in
    let e : l.k ≡ 0 = omega arith in
    let noted = rw e at l.invariant.noted in
    let marked = rw e at l.invariant.marked in
    let again : any_twice l.twice ≡ (set_by a.q a.n a.table.now 0).0 = rw (l.invariant.counted, e) (twice_any a.q a.n a.table.now 0) in
    c.summed.ensures ∙ rw (noted, marked, again)
