-- The waiting DLI1s: specs/Laws. Assumes nothing.
use Prim.Native.Nat.{ℕ, zero, suc, ◌+◌, ◌<◌}
use mathlib.Core.Path.{◌≡◌, refl, ap, ◌∙◌}
use mathlib.Core.Bool.{false, ◌||◌}
use mathlib.Core.List.{List, [], ◌∷◌, ◌++◌, map, Forall₂}
use native.Mathlib.Nat.{le_of_suc-le-suc, not-suc-le-zero}
use native.Mathlib.Numerals.{add-one}
use lib.Dec.{T, eqb, eqb→eq}
use borrow.Author.Tests.{eqb-true}
use lib.ListN.{length, take, set}
use Rattle.ground.specs.Lists.{all}
use Rattle.ground.proofs.Bools.{and_l, and_r, and_i, by_cases}
use Rattle.event.specs.Kinds.{cfu, cfb, cfnr}
use Rattle.notice.specs.declared.Dli1.{Dli1}
use Rattle.notice.specs.declared.History.{History}
use Rattle.notice.specs.Notice.{no_notice, unmarked, marked, strictest_with, notice_of, after_dli1}
use Rattle.notice.specs.Stricter.{StricterDli1, lowered, StricterHistory}
use Rattle.notice.proofs.Stricter.{dli1_stricter, notice_stricter}
use Rattle.waits.specs.Waits.{behind, last_after, after_all, take_all}
use Rattle.waits.specs.Soundness.{later_holds, waits_hold}
use Rattle.waits.specs.Laws.{Appends, NumbersLast, notices_of, LaterSilent, NominatesLast, strictest_of, SumsUp, each, HandsOverStricter, HandsOverNoMore, PartySame, dli1_number, dli1_reason, NumbersSame, ReasonsSame, CountSame}

take_set : (l : List Dli1) (n : ℕ) (d : Dli1) → n < length l → take (suc n) (set l n d) ≡ take n l ++ (d ∷ [])
take_set [] n d k = absurd (not-suc-le-zero k)
take_set (x ∷ l) zero d k = refl
take_set (x ∷ l) (suc n) d k = ap (λ (m : List Dli1). x ∷ m) (take_set l n d (le_of_suc-le-suc k))

behind_more : (l : List Dli1) (n : ℕ) (d : Dli1) → n < length l → take (n + 1) (set l n d) ≡ take n l ++ (d ∷ [])
behind_more l n d k = rw add-one (take_set l n d k)

pub appends : Appends
appends w d k = rw (behind_more w.later w.count d k)

last_more : (f : Dli1) (l : List Dli1) (d : Dli1) → last_after f (l ++ (d ∷ [])) ≡ d.number
unfolding last_after
last_more f [] d = refl
last_more f (x ∷ l) d = last_more x l d

pub numbers_last : NumbersLast
numbers_last w d k = rw (behind_more w.later w.count d k) (last_more w.first (take w.count w.later) d)

pub not_cfnr : (r : ℕ) → T (eqb r cfu || eqb r cfb) → eqb r cfnr ≡ false
not_cfnr r u = by_cases (eqb r cfnr) (λ y. absurd (rw (eqb-true r cfnr y) at u)) (λ n. n)

-- one that is cfu or cfb, after another, gives none
one_silent : (h : History) (d : Dli1) → h.seen ≡ 1 → T (later_holds d) → T (eqb no_notice (notice_of h d))
one_silent h d e t = rw (e, not_cfnr d.reason (search (and_l, and_r))) tt

all_silent : (h : History) (l : List Dli1) → h.seen ≡ 1 → T (all later_holds l) → T (all (eqb no_notice) (notices_of h l))
unfolding all notices_of
all_silent h [] e t = tt
all_silent h (d ∷ l) e t =
    and_i (eqb no_notice (notice_of h d)) _ (one_silent h d e (and_l (later_holds d) (all later_holds l) t)) (all_silent (after_dli1 h d) l refl (and_r (later_holds d) (all later_holds l) t))

pub later_silent : LaterSilent
unfolding waits_hold
later_silent h w t =
    let k : T (all later_holds (behind w)) = search (and_l, and_r) depth 8 in
    all_silent (after_dli1 h w.first) (behind w) refl k

nominated_last : (h : History) (f : Dli1) (l : List Dli1) → (after_all (after_dli1 h f) l).nominated ≡ last_after f l
unfolding after_all last_after
nominated_last h f [] = refl
nominated_last h f (d ∷ l) = nominated_last (after_dli1 h f) d l

-- what a list leaves, where the number shown before it is as it says
abbrev left : History → Dli1 → List Dli1 → ℕ → History
left h f l shown = record {
  seen = marked;
  strictest = strictest_of (strictest_with h f.option) l;
  forbidden = h.forbidden;
  shown = shown;
  nominated = last_after f l;
}

summed : (h : History) (f : Dli1) (l : List Dli1) → T (all later_holds l) → after_all (after_dli1 h f) l ≡ left h f l (after_dli1 h f).shown
unfolding all after_all last_after strictest_of
summed h f [] t = refl
summed h f (d ∷ l) t =
    let k : T (later_holds d) = and_l (later_holds d) (all later_holds l) t in
    let n = not_cfnr d.reason (search (and_l, and_r)) in
    let s : (after_dli1 (after_dli1 h f) d).shown ≡ (after_dli1 h f).shown = rw n refl in
    summed (after_dli1 h f) d l (and_r (later_holds d) (all later_holds l) t) ∙ ap (left h f (d ∷ l)) s

pub sums_up : SumsUp
unfolding take_all waits_hold
sums_up h w t =
    let k : T (all later_holds (behind w)) = search (and_l, and_r) depth 8 in
    let c : w.first.reason ≡ cfnr = eqb→eq w.first.reason cfnr (search (and_l, and_r) depth 8) in
    let s : (after_dli1 h w.first).shown ≡ unmarked = rw c refl in
    summed h w.first (behind w) k ∙ ap (left h w.first (behind w)) s

pub nominates_last : NominatesLast
unfolding take_all
nominates_last h w = nominated_last h w.first (behind w)

pub take_each : (n : ℕ) {l l' : List Dli1} → Forall₂ StricterDli1 l l' → Forall₂ StricterDli1 (take n l) (take n l')
take_each zero p = Forall₂.nil
take_each (suc n) Forall₂.nil = Forall₂.nil
take_each (suc n) (Forall₂.cons p ps) = Forall₂.cons p (take_each n ps)

all_stricter : {h h' : History} {l l' : List Dli1} → StricterHistory h h' → Forall₂ StricterDli1 l l' → StricterHistory (after_all h l) (after_all h' l')
unfolding after_all
all_stricter q Forall₂.nil = q
all_stricter {h = h} q (Forall₂.cons {a = a} p ps) = all_stricter {h = after_dli1 h a} (dli1_stricter q p) ps

pub hands_over_stricter : HandsOverStricter
unfolding take_all
hands_over_stricter h h' _ _ q (each w first later p ps) = all_stricter (dli1_stricter q p) (take_each w.count ps)

pub hands_over_no_more : HandsOverNoMore
unfolding take_all
hands_over_no_more h h' _ _ q (each w first later p ps) = notice_stricter q p

last_same : {f f' : Dli1} {l l' : List Dli1} → StricterDli1 f f' → Forall₂ StricterDli1 l l' → last_after f' l' ≡ last_after f l
unfolding last_after
last_same (lowered d option k m) Forall₂.nil = refl
last_same p (Forall₂.cons q qs) = last_same q qs

pub party_same : PartySame
party_same w w' (each _ first later p ps) = last_same p (take_each w.count ps)

-- what a stricter one shares is the same in a list of them
map_same : {l l' : List Dli1} (f : Dli1 → ℕ) → ((d d' : Dli1) → StricterDli1 d d' → f d' ≡ f d) → Forall₂ StricterDli1 l l' → map f l' ≡ map f l
map_same f p Forall₂.nil = refl
map_same f p (Forall₂.cons q qs) = let e = p _ _ q in let r = map_same f p qs in λ z. e z ∷ r z

number_same : (d d' : Dli1) → StricterDli1 d d' → d'.number ≡ d.number
number_same _ _ (lowered d option k m) = refl

reason_same : (d d' : Dli1) → StricterDli1 d d' → d'.reason ≡ d.reason
reason_same _ _ (lowered d option k m) = refl

pub numbers_same : NumbersSame
numbers_same w w' (each _ first later p ps) = map_same dli1_number number_same (Forall₂.cons p (take_each w.count ps))

pub reasons_same : ReasonsSame
reasons_same w w' (each _ first later p ps) = map_same dli1_reason reason_same (Forall₂.cons p (take_each w.count ps))

pub count_same : CountSame
count_same w w' (each _ first later p ps) = refl
