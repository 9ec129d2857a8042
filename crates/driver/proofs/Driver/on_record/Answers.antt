-- The record that is read again is the one that was seen. Assumes nothing.
use mathlib.Core.Path.{◌≡◌}
use native.Mathlib.Omega.{arith}
use lib.ListN.{length}
use Rattle.driver.specs.Driver.{Reads}
use Rattle.driver.proofs.Beside.{kept_done, kept_flips}
use Rattle.driver.proofs.Turns.{read_again}
use Rattle.driver.proofs.Driver.on_record.Goals as goal

pub acted-x-requires : goal.acted-x-requires
acted-x-requires c =
    let b = c.self.inside.board in
    let long : length b.calls ≡ 64 = omega arith in
    let r : Reads b c.args.seen = rw c.self.view_is c.requires.read in
    rw (← read_again b c.args.seen long c.self.invariant.short r) at c.requires.doable

pub flip-self-inside-requires : goal.flip-self-inside-requires
flip-self-inside-requires c =
    let b = c.self.inside.board in
    let long : length b.calls ≡ 64 = omega arith in
    let r : Reads b c.args.seen = rw c.self.view_is c.requires.read in
    kept_flips b c.self.inside.notes long c.self.invariant c.args.seen.place c.acted-x.result.call r.there

pub invariant_of-self : goal.invariant_of-self
invariant_of-self c =
    let b = c.self.inside.board in
    let long : length b.calls ≡ 64 = omega arith in
    let r : Reads b c.args.seen = rw c.self.view_is c.requires.read in
    kept_done b c.self.inside.notes long c.self.invariant _ c.args.seen.place _ _ _ _ c.acted-x.result.call r.there c.flip-self-inside.ensures c.quiet_until-due.ensures c.min-self-inside.ensures c.held_by.ensures
