use Prim.Native.Nat.{◌≤◌, ◌*◌}
use mathlib.Core.Path.{◌≡◌}
use native.Mathlib.Omega.{arith}
use lib.ListN.{length}
use Rattle.std.proofs.Common.{rules}
use Rattle.driver.specs.Driver.{told}
use Rattle.panel.proofs.Playing.{playing_told, played_text, played_board}
use Rattle.panel.proofs.play.Goals as goal

pub loop-k-preserved : goal.loop-k-preserved
loop-k-preserved c =
    let a = c.args in
    let v = c.loop-k in
    let l = c.write_line-at in
    let wide : c.min-n.result * 96 ≤ length a.out.now = omega arith in
    let same : c.unwrap_or_else-answer.result ≡ told c.play.result = search rules in
    playing_told c.on-driver.result a.position a.bytes.now a.out.now c.min-n.result v.driver v.out v.at v.k v.invariant c.loop-k-test.true c.event_at-e.result _ _ l.new.out l.result c.event_at-e.ensures c.play.ensures (rw same at l.ensures.written) l.ensures.upper_bound wide l.auto.out

pub returns : goal.returns
returns c =
    let a = c.args in
    let v = c.loop-k in
    let n = c.min-n.result in
    let e = c.min-n.ensures in
    let b = c.on-driver.ensures in
    let s = c.board.ensures in
    record {
      text = rw (← e, ← b) (played_text c.on-driver.result a.position a.bytes.now a.out.now n v.driver v.out v.at v.k v.invariant c.loop-k-test.false);
      used = rw e;
      next = rw e;
      board = rw (← e, ← b, s) (played_board c.on-driver.result a.position a.bytes.now a.out.now n v.driver v.out v.at v.k v.invariant c.loop-k-test.false);
      sound = rw s v.invariant.sound;
    }
