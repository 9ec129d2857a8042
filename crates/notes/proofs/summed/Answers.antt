use mathlib.Core.Path.{◌≡◌, refl, sym, ◌∙◌}
use native.Mathlib.Omega.{arith}
use borrow.Author.Rules.{rules}
use lib.ListN.{length, get_or, get_or-replicate}
use Rattle.call.specs.Record.{free_call}
use Rattle.call.proofs.Read.{unread}
use Rattle.draw.specs.Column.{over, frees}
use Rattle.expiry.specs.Expiry.{soonest_of}
use Rattle.draw.proofs.Column.{over_next, over_at, over_length}
use Rattle.notes.proofs.Kept.{kept_next, kept_may, kept_none, summed_kept}
use Rattle.expiry.proofs.Bound.{soonest_stored}
use Rattle.notes.proofs.summed.Goals as goal

pub loop-i-init : goal.loop-i-init
unfolding soonest_of
loop-i-init c = record { kept = kept_none; least = refl }

pub flip-free-requires : goal.flip-free-requires
flip-free-requires c =
    let l = c.args.calls in
    let v = c.loop-i in
    let long : length l ≡ 64 = search rules in
    let f : get_or (over v.i l frees) v.i free_call ≡ free_call =
    over_at l frees v.i free_call (omega arith) (omega arith) ∙ get_or-replicate 64 v.i free_call free_call (omega arith) in
    rw f at (kept_may (over v.i l frees) v.free v.soon v.dues v.held v.i (get_or l v.i unread) free_call v.invariant.kept (omega arith) (over_length l frees v.i long))

pub loop-i-preserved : goal.loop-i-preserved
loop-i-preserved c =
    let l = c.args.calls in
    let v = c.loop-i in
    let i = v.i in
    let long : length l ≡ 64 = search rules in
    let full = over_length l frees i long in
    let f : get_or (over i l frees) i free_call ≡ free_call =
    over_at l frees i free_call (omega arith) (omega arith) ∙ get_or-replicate 64 i free_call free_call (omega arith) in
    record {
      kept = rw (← over_next l frees i unread (omega arith) (omega arith), c.quiet_until-due.ensures, c.held_by.ensures)
          (kept_next (over i l frees) v.free v.soon v.dues v.held i (get_or l i unread) free_call v.invariant.kept
          c.flip-free.result c.min-soon.result (omega (arith, full)) (rw f c.flip-free.ensures)
          (omega arith) (omega (arith, c.quiet_until-due.ensures)));
      least = rw (c.min-soon.ensures, c.quiet_until-due.ensures, v.invariant.least, v.invariant.kept.column) (sym (soonest_stored (over i l frees) i (get_or l i unread) (omega (arith, full)) f));
    }

pub returns : goal.returns
returns c =
    let e : c.loop-i.i ≡ c.args.len = omega arith in
    let v = c.loop-i in
    rw e at (summed_kept (over v.i c.args.calls frees) v.free v.soon v.dues v.held v.invariant.kept v.invariant.least)
