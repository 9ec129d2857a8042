-- Each arm by what becomes of the event. Assumes nothing.
use Prim.Native.Nat.{◌≤◌, ◌<◌}
use mathlib.Core.Path.{◌≡◌, refl}
use native.Mathlib.Omega.{arith}
use lib.ListN.{length}
use Rattle.std.proofs.lemmas.Result.{err_from_is_err_and}
use Rattle.expiry.specs.Expiry.{never}
use Rattle.driver.proofs.Turns.{reads, doable, refused, far, done}
use Rattle.driver.proofs.Driver.play.Goals as goal

pub returns-in_err-turned : goal.returns-in_err-turned
returns-in_err-turned c =
    let b = c.self.inside.board in
    let long : length b.calls ≡ 64 = omega arith in
    let late : c.args.e.time ≤ never = omega arith in
    let p = err_from_is_err_and c.from_residual.result c.from_residual.ensures.1 in
    rw (p.1, p.2, ← c.self.view_is)
    (refused b c.self.inside.notes long c.self.invariant c.args.e late _ _ _ c.place_on-place.ensures c.within-i.ensures c.identifier_in-identifier.ensures _ c.in_err-turned.ensures c.in_err-turned.field-0.0 refl)

pub on_record-requires-clause-read : goal.on_record-requires-clause-read
on_record-requires-clause-read c =
    let b = c.self.inside.board in
    let long : length b.calls ≡ 64 = omega arith in
    let late : c.args.e.time ≤ never = omega arith in
    rw (← c.self.view_is)
    (reads b c.self.inside.notes long c.self.invariant c.args.e late _ _ _ c.place_on-place.ensures c.within-i.ensures c.identifier_in-identifier.ensures _ (rw c.in-Record.is at c.in_ok-turned.ensures) refl)

pub on_record-requires-clause-doable : goal.on_record-requires-clause-doable
on_record-requires-clause-doable c =
    let b = c.self.inside.board in
    let long : length b.calls ≡ 64 = omega arith in
    let late : c.args.e.time ≤ never = omega arith in
    let low : b.station.limit < 256 = omega arith in
    doable b c.self.inside.notes long c.self.invariant c.args.e late _ _ _ c.place_on-place.ensures c.within-i.ensures c.identifier_in-identifier.ensures _ (rw c.in-Record.is at c.in_ok-turned.ensures) refl low

pub returns-in-Held : goal.returns-in-Held
returns-in-Held c =
    let b = c.self.inside.board in
    let long : length b.calls ≡ 64 = omega arith in
    let late : c.args.e.time ≤ never = omega arith in
    rw (← c.self.view_is)
    (far b c.self.inside.notes long c.self.invariant c.args.e late _ _ _ c.place_on-place.ensures c.within-i.ensures c.identifier_in-identifier.ensures _ (rw c.in-Held.is at c.in_ok-turned.ensures) _ _ refl
    (rw (← c.self.view_is) at c.on_held.ensures.answer) (rw (← c.self.view_is) at c.on_held.ensures.board))

pub returns-in-Record : goal.returns-in-Record
returns-in-Record c =
    let b = c.self.inside.board in
    let long : length b.calls ≡ 64 = omega arith in
    let late : c.args.e.time ≤ never = omega arith in
    rw (← c.self.view_is)
    (done b c.self.inside.notes long c.self.invariant c.args.e late _ _ _ c.place_on-place.ensures c.within-i.ensures c.identifier_in-identifier.ensures _ (rw c.in-Record.is at c.in_ok-turned.ensures) _ _ refl
    c.on_record.ensures.answer (rw (← c.self.view_is) at c.on_record.ensures.board))
