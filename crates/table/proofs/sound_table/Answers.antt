use mathlib.Core.Path.{◌≡◌, refl, sym, ap, ◌∙◌}
use native.Mathlib.Omega.{arith}
use borrow.Author.Rules.{rules}
use lib.ListN.{length}
use Rattle.ground.specs.Lists.{all}
use Rattle.ground.proofs.Walks.{all_on, all_off}
use Rattle.call.specs.Record.{free_call}
use Rattle.call.proofs.Read.{unread, read_any}
use Rattle.call.specs.Soundness.{sound_call}
use Rattle.table.specs.Column.{apart_in}
use Rattle.table.proofs.Columns.{column_apart}
use Rattle.draw.specs.Column.{joined_of}
use Rattle.draw.proofs.Column.{column_next}
use Rattle.table.proofs.sound_table.Goals as goal

pub loop-i-init : goal.loop-i-init
unfolding all
loop-i-init c = record { sound = refl; told = refl }

pub returns-then-not-sound_call : goal.returns-then-not-sound_call
returns-then-not-sound_call c =
    let a = c.args in
    let long : length a.calls ≡ 64 = search rules in
    sym (rw (all_off (sound_call a.last) a.calls c.loop-i.i a.len _ (omega arith) (omega arith) ((sym c.sound_call.ensures ∙ c.if-not-sound_call.true))))

pub loop-i-preserved : goal.loop-i-preserved
loop-i-preserved c =
    let a = c.args in
    let v = c.loop-i in
    let long : length a.calls ≡ 64 = search rules in
    record {
      sound = all_on (sound_call a.last) a.calls v.i _ (omega arith) v.invariant.sound ((sym c.sound_call.ensures ∙ c.if-not-sound_call.false));
      told = rw (v.invariant.told, c.held_by.ensures, read_any a.calls v.i unread free_call (omega arith)) (column_next a.calls v.i (omega arith) (omega arith));
    }

pub returns : goal.returns
returns c =
    let a = c.args in
    let e : c.loop-i.i ≡ a.len = omega arith in
    let sound = rw e at c.loop-i.invariant.sound in
    let told = rw e at c.loop-i.invariant.told in
    c.apart.ensures ∙ ap apart_in (c.joined-column.ensures ∙ ap (λ l. joined_of l a.p) told) ∙ column_apart a.len a.calls a.p ∙ sym (rw sound)
