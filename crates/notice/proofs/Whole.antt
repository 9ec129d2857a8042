-- The history is a summary of the list, and notices and numbers go by the list. Assumes nothing.
use Prim.Native.Nat.{ℕ}
use mathlib.Core.Path.{◌≡◌, refl, ap}
use mathlib.Core.Bool.{Bool, true, false, ◌&&◌, ◌||◌, not}
use mathlib.Core.List.{List, [], ◌∷◌, reverse_aux}
use lib.Dec.{T, eqb, leb, T_not, not_T, eqb→eq, leb→le}
use native.Mathlib.Omega.{arith}
use Rattle.ground.specs.Choice.{when◌then◌else◌}
use Rattle.ground.specs.Lists.{all, any}
use Rattle.ground.proofs.Bools.{and_l, and_r, is_true, from_false}
use Rattle.notice.specs.declared.Dli1.{Dli1}
use Rattle.notice.specs.Notice.{no_notice, no_history, may_show, strictest_with, gives_notice}
use Rattle.notice.specs.Whole.{Mark, may, mayNot, flag_of, is_allowed, is_forbidden, Told, dli1, dli3, options_of, marks_of, diverted, counted, options_ok, last_nominated, all_clear, shown_since, shows, not_zero, notices, history_of, history_from, Least, ShowsByList, ShowsExactly, NoticesByList, NoticesExactly, Summarises, StoredInOrder}
use Rattle.notice.proofs.Least.{least_one, least_more, least_two, least_some}

seen_is_lem : (l : List Told) → (history_of l).seen ≡ when diverted l then 1 else 0
unfolding history_of any
seen_is_lem [] = refl
seen_is_lem (dli1 d ∷ l) = refl
seen_is_lem (dli3 m n ∷ l) = seen_is_lem l

no_options : (l : List Told) → diverted l ≡ false → options_of l ≡ []
unfolding options_of any
no_options [] e = refl
no_options (dli1 d ∷ l) e = absurd (from_false true e)
no_options (dli3 m n ∷ l) e = no_options l e

strictest_is_lem : (l : List Told) → T (diverted l) → Least (history_of l).strictest (options_of l)
unfolding history_of options_of any
strictest_is_lem [] t = absurd t
strictest_is_lem (dli1 d ∷ l) t = go (diverted l) refl (strictest_is_lem l)
  where
    go : (b : Bool) → diverted l ≡ b → (T b → Least (history_of l).strictest (options_of l)) → Least (strictest_with (history_of l) d.option) (d.option ∷ options_of l)
    go true e ih = rw (seen_is_lem l, e) (least_more (history_of l).strictest d.option (options_of l) (ih tt))
    go false e ih = rw (seen_is_lem l, e, no_options l e) (least_one d.option)
strictest_is_lem (dli3 m n ∷ l) t = strictest_is_lem l t

forbidden_is_lem : (l : List Told) → (history_of l).forbidden ≡ when any is_forbidden (marks_of l) then 1 else 0
unfolding history_of marks_of any
forbidden_is_lem [] = refl
forbidden_is_lem (dli1 d ∷ l) = forbidden_is_lem l
forbidden_is_lem (dli3 may n ∷ l) = forbidden_is_lem l
forbidden_is_lem (dli3 mayNot n ∷ l) = refl

nominated_is_lem : (l : List Told) → (history_of l).nominated ≡ last_nominated l
unfolding history_of last_nominated
nominated_is_lem [] = refl
nominated_is_lem (dli1 d ∷ l) = refl
nominated_is_lem (dli3 m n ∷ l) = nominated_is_lem l

-- the parts of `may_show`, each as the list says it
flag_clear : (m : Mark) → eqb (flag_of m) 1 ≡ is_allowed m
flag_clear may = refl
flag_clear mayNot = refl

marks_clear : (ms : List Mark) → eqb (when any is_forbidden ms then 1 else 0) 0 ≡ all is_allowed ms
unfolding any all
marks_clear [] = refl
marks_clear (may ∷ ms) = marks_clear ms
marks_clear (mayNot ∷ ms) = refl

mark_clear : (b : Bool) → eqb (when b then 1 else 0) 0 ≡ not b
mark_clear true = refl
mark_clear false = refl

regroup : (a t f s : Bool) → a && t && f && s ≡ t && (a && f) && s
regroup true t f s = refl
regroup false true f s = refl
regroup false false f s = refl

clear_is : (l : List Told) (m : Mark) (b : Bool) → T (diverted l) → T (options_ok l) → (history_of l).shown ≡ when b then 1 else 0 → may_show (history_of l) (flag_of m) ≡ all_clear l m b
unfolding all
clear_is l m b t o e =
    let two = least_two (history_of l).strictest (options_of l) (strictest_is_lem l t) o in
    simp (flag_clear m, two, forbidden_is_lem l, marks_clear (marks_of l), e, mark_clear b)
    (regroup (is_allowed m) (all (eqb 2) (options_of l)) (all is_allowed (marks_of l)) (not b))

one_of : (a b : Bool) (x y : ℕ) → (when b then x else (when a then x else y)) ≡ when a || b then x else y
one_of true true x y = refl
one_of true false x y = refl
one_of false true x y = refl
one_of false false x y = refl

option_ok : (d : Dli1) (l : List Told) → T (options_ok (dli1 d ∷ l)) → T (options_ok l)
unfolding options_of all
option_ok d l o = and_r (leb d.option 2) (options_ok l) o

-- the mark after a DLI1 that reopens, and after one that does not
mark_reopened : (b s : Bool) (n : ℕ) → n ≡ (when s then 1 else 0) → (when b then 0 else n) ≡ when (when b then false else s) then 1 else 0
mark_reopened true s n e = refl
mark_reopened false s n e = e

shown_is_lem : (l : List Told) → T (counted l) → T (options_ok l) → (history_of l).shown ≡ when shown_since l then 1 else 0
unfolding history_of shown_since counted options_of
shown_is_lem [] c o = refl
shown_is_lem (dli1 d ∷ l) c o = mark_reopened (eqb d.reason 3) (shown_since l) (history_of l).shown (shown_is_lem l c (option_ok d l o))
shown_is_lem (dli3 m n ∷ l) c o =
    let ih = shown_is_lem l (and_r (diverted l) (counted l) c) o in
    rw (clear_is l m (shown_since l) (and_l (diverted l) (counted l) c) o ih, ih) (one_of (shown_since l) (shows l m) 1 0)

unused_is : (l : List Told) → T (counted l) → T (not (diverted l)) → history_of l ≡ no_history
unfolding history_of counted any
unused_is [] c t = refl
unused_is (dli1 d ∷ l) c t = absurd t
unused_is (dli3 m n ∷ l) c t = absurd (T_not (diverted l) t (and_l (diverted l) (counted l) c))

pub summary : Summarises
summary l c o = record {
  unused = unused_is l c;
  seen_is = seen_is_lem l;
  strictest_is = strictest_is_lem l;
  forbidden_is = forbidden_is_lem l;
  shown_is = shown_is_lem l c o;
  nominated_is = nominated_is_lem l;
}

pub number_by_list : ShowsByList
unfolding counted
number_by_list l m number c o =
    let d = and_l (diverted l) (counted l) c in
    let s = shown_is_lem l (and_r (diverted l) (counted l) c) o in
    simp (clear_is l m (shown_since l) d o s, nominated_is_lem l)

pub number_exactly : ShowsExactly
number_exactly l m number c o z = rw (number_by_list l m number c o) (chosen (shows l m) (eqb number 0) refl)
  where
    chosen : (b e : Bool) → eqb number 0 ≡ e → not (eqb (when b then (when e then last_nominated l else number) else 0) 0) ≡ b
    chosen true true q = is_true (not_zero (last_nominated l)) z
    chosen true false q = ap not q
    chosen false e q = refl

gives_by_list : (l : List Told) (d : Dli1) → gives_notice (history_of l) d ≡ notices l d
unfolding history_of options_of any
gives_by_list l d = go (diverted l) refl
  where
    go : (b : Bool) → diverted l ≡ b → gives_notice (history_of l) d ≡ when b then eqb d.reason 3 && all not_zero (d.option ∷ options_of l) else not_zero d.option
    go true e =
        let s = least_some (strictest_with (history_of l) d.option) (d.option ∷ options_of l) (strictest_is_lem (dli1 d ∷ l) tt) in
        rw (← s, seen_is_lem l, e)
    go false e = rw (seen_is_lem l, e)

pub notice_by_list : NoticesByList
notice_by_list l d = (gives_by_list l d, ap (λ b. when b then d.reason else no_notice) (gives_by_list l d))

pub notice_exactly : NoticesExactly
notice_exactly l d h = rw (gives_by_list l d) (chosen (notices l d))
  where
    chosen : (b : Bool) → not (eqb (when b then d.reason else 255) 255) ≡ b
    chosen true = is_true (not (eqb d.reason 255)) (not_T (eqb d.reason 255) (λ t. omega (arith, leb→le, eqb→eq)))
    chosen false = refl

stored : (later l : List Told) → history_from (history_of l) later ≡ history_of (reverse_aux later l)
unfolding history_of history_from
stored [] l = refl
stored (dli1 d ∷ later) l = stored later (dli1 d ∷ l)
stored (dli3 m n ∷ later) l = stored later (dli3 m n ∷ l)

pub stored_in_order : StoredInOrder
unfolding history_of
stored_in_order arrivals = stored arrivals []
