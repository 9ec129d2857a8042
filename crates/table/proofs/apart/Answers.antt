use Prim.Native.Nat.{◌<◌, ◌-◌, ◌+◌}
use mathlib.Core.Bool.{true, false}
use mathlib.Core.List.{◌∷◌}
use mathlib.Core.Path.{◌≡◌, refl, sym, ◌∙◌}
use native.Mathlib.Omega.{arith}
use lib.Dec.{eqb}
use lib.ListN.{drop, get_or, length, length-set, replicate}
use Rattle.ground.specs.Lists.{all, any}
use Rattle.table.specs.Column.{apart_in}
use Rattle.table.proofs.Columns.{apart_none, apart_more, apart_not, apart_past, any_contains}
use Rattle.table.proofs.Marks.{marked, marked_at, marked_past, is_marked_lem, is_none, apart_drop, apart_marked, marked_more, dropped}
use Rattle.table.proofs.apart.Goals as goal

pub loop-k-init : goal.loop-k-init
loop-k-init c =
    let l = c.args.held.now in
    let long : length l ≡ 68 = omega arith in
    record { wide = refl; apart = apart_past l 68 (omega arith); marks = marked_past (replicate 256 0) l 68 (omega arith) }

pub loop-k-preserved-then-x-eq0 : goal.loop-k-preserved-then-x-eq0
loop-k-preserved-then-x-eq0 c =
    let l = c.args.held.now in
    let long : length l ≡ 68 = omega arith in
    let v = c.loop-k in
    let k = v.k - 1 in
    let e : k + 1 ≡ v.k = omega arith in
    let h : k < length l = omega arith in
    record {
      wide = v.invariant.wide;
      apart = sym (apart_none l k h c.if-x-eq0.true) ∙ rw e v.invariant.apart;
      marks = marked_at v.marks l k h (is_none v.marks _ c.if-x-eq0.true) (rw e v.invariant.marks);
    }

-- the mark was not set
pub loop-k-preserved-then-marks-m-eq0 : goal.loop-k-preserved-then-marks-m-eq0
loop-k-preserved-then-marks-m-eq0 c =
    let l = c.args.held.now in
    let long : length l ≡ 68 = omega arith in
    let v = c.loop-k in
    let k = v.k - 1 in
    let e : k + 1 ≡ v.k = omega arith in
    let h : k < length l = omega arith in
    let here : drop k l ≡ get_or l k 0 ∷ drop (k + 1) l = dropped l k h in
    let a : apart_in (drop (k + 1) l) ≡ true = rw e v.invariant.apart in
    let q : all (marked v.marks) (drop (k + 1) l) ≡ true = rw e v.invariant.marks in
    record {
      wide = simp length-set v.invariant.wide;
      apart = rw here (apart_marked v.marks (drop (k + 1) l) a q (get_or l k 0) c.if-x-eq0.false c.if-marks-m-eq0.true);
      marks = rw here (marked_more v.marks (drop (k + 1) l) a q (get_or l k 0) c.if-x-eq0.false (omega (arith, v.invariant.wide)));
    }

pub returns-then-contains : goal.returns-then-contains
returns-then-contains c =
    let l = c.args.held.now in
    let long : length l ≡ 68 = omega arith in
    let k = c.loop-k.k - 1 in
    let h : k < length l = omega arith in
    let there : any (eqb (get_or l k 0)) (drop (k + 1) l) ≡ true = sym (any_contains (get_or l k 0) l (k + 1) 68 (omega arith)) ∙ sym c.if-contains.ensures.value in
    sym (apart_drop l k (apart_not l k h c.if-x-eq0.false there))

-- it was, by another number
pub loop-k-preserved : goal.loop-k-preserved
loop-k-preserved c =
    let l = c.args.held.now in
    let long : length l ≡ 68 = omega arith in
    let v = c.loop-k in
    let k = v.k - 1 in
    let e : k + 1 ≡ v.k = omega arith in
    let h : k < length l = omega arith in
    let none : any (eqb (get_or l k 0)) (drop (k + 1) l) ≡ false = sym (any_contains (get_or l k 0) l (k + 1) 68 (omega arith)) ∙ sym c.if-contains.ensures.value in
    record {
      wide = v.invariant.wide;
      apart = sym (apart_more l k h c.if-x-eq0.false none) ∙ rw e v.invariant.apart;
      marks = marked_at v.marks l k h (is_marked_lem v.marks (get_or l k 0) c.if-marks-m-eq0.false) (rw e v.invariant.marks);
    }
