-- A stricter history shows no more, and stays stricter. Assumes nothing.
use Prim.Native.Nat.{ℕ, ◌≤◌}
use mathlib.Core.Path.{◌≡◌}
use mathlib.Core.Bool.{Bool, true, false, not}
use native.Mathlib.Nat.{le_refl}
use native.Mathlib.Omega.{arith}
use lib.Dec.{T, eqb, eqb→eq, T_not, not_T}
use Rattle.ground.specs.Choice.{when◌then◌else◌}
use Rattle.ground.proofs.Bools.{and_l, and_r, and_i, eq→eqb, by_cases}
use Rattle.notice.specs.declared.Dli1.{Dli1}
use Rattle.notice.specs.declared.History.{History}
use Rattle.event.specs.Kinds.{allowed, forbidden}
use Rattle.notice.specs.Notice.{no_notice, no_number, seen, strictest_with, gives_notice, notice_of, reopened, after_dli1, may_show, number_shown, after_dli3}
use Rattle.notice.specs.Stricter.{ShownOnlyWhere, hidden, agreed, StricterDli1, lowered, StricterFlag, kept, forbade, so_far, highest, restricted, StricterHistory, tightened}

-- what two decisions on one value show
when_shown : (none value : ℕ) (b b' : Bool) → (T b' → T b) → ShownOnlyWhere none (when b then value else none) (when b' then value else none)
when_shown none value true true f = agreed
when_shown none value true false f = hidden
when_shown none value false true f = absurd (f tt)
when_shown none value false false f = hidden

-- The strictest option with one more, in the stricter run and in the other.
module _ (h : History) (s f n : ℕ) (low : s ≤ h.strictest) (top : h.strictest ≤ highest h) where
  lower_with : (o o' : ℕ) → o' ≤ o → strictest_with (restricted h s f n) o' ≤ strictest_with h o
  lower_with o o' k = by_cases (seen h) (λ y. rw y (omega arith)) (λ z. rw z k)

  small_with : (o : ℕ) → o ≤ 2 → strictest_with h o ≤ 2
  small_with o k = by_cases (seen h) (λ y. rw y (omega arith)) (λ z. rw z k)

  -- every option so far is 2 only if each one before was
  full_before : (o : ℕ) → strictest_with (restricted h s f n) o ≡ 2 → so_far h s ≡ 2
  full_before o e = by_cases (seen h) (λ y. rw y (omega (arith, rw y at e, rw y at top))) (λ z. rw z)

  full_now : s ≡ 2 → so_far h s ≡ 2
  full_now e = by_cases (seen h) (λ y. rw y e) (λ z. rw z)

  full_seen : h.strictest ≡ 2 → so_far h s ≡ 2 → s ≡ 2
  full_seen l e = by_cases (seen h) (λ y. rw y at e) (λ z. absurd (omega (arith, rw z at top)))

  small_now : h.strictest ≤ 2
  small_now = by_cases (seen h) (λ y. rw y at top) (λ z. omega (arith, rw z at top))

-- marks that one test chooses, in both runs alike
both_clear : (b : Bool) (x y m n : ℕ) → (x ≡ 0 → y ≡ 0) → (m ≡ 0 → n ≡ 0) → (when b then x else m) ≡ 0 → (when b then y else n) ≡ 0
both_clear true x y m n p q e = p e
both_clear false x y m n p q e = q e

same_mark : (x : ℕ) → x ≡ 0 → x ≡ 0
same_mark x e = e

-- a DLI1 is heard
pub dli1_stricter : {h h' : History} {d d' : Dli1} → StricterHistory h h' → StricterDli1 d d' → StricterHistory (after_dli1 h d) (after_dli1 h' d')
dli1_stricter (tightened h s f n low top marked less shut) (lowered d o k l) =
    tightened (after_dli1 h d) (strictest_with (restricted h s f n) o) f (reopened (restricted h s f n) d.reason).shown
    (lower_with h s f n low top d.option o k) (small_with h s f n low top d.option l) marked (λ e. search (both_clear, same_mark, less))
    (λ e free none. let unshown = shut (full_before h s f n low top o e) free in search (both_clear, same_mark, unshown))

not_zero_lem : (a b : ℕ) → a ≤ b → T (not (eqb a 0)) → T (not (eqb b 0))
not_zero_lem a b k t = not_T (eqb b 0) (λ u. let z : b ≡ 0 = eqb→eq b 0 u in T_not (eqb a 0) t (eq→eqb a 0 (omega arith)))

-- "The first of a call gives a notice unless its option is 0. A later one .. exactly if its reason is cfnr and no option so far is 0."
notice_only : {h h' : History} {d d' : Dli1} → StricterHistory h h' → StricterDli1 d d' → T (gives_notice h' d') → T (gives_notice h d)
notice_only (tightened h s f n low top marked less shut) (lowered d o k l) t =
    by_cases (seen h)
    (λ y. let u = rw y at t in let m = rw y at (lower_with h s f n low top d.option o k) in rw y (search (and_l, and_r, and_i, not_zero_lem)))
    (λ z. rw z (not_zero_lem o d.option k (rw z at t)))

pub notice_stricter : {h h' : History} {d d' : Dli1} → StricterHistory h h' → StricterDli1 d d' → ShownOnlyWhere no_notice (notice_of h d) (notice_of h' d')
notice_stricter p (lowered d o k l) = search (when_shown, notice_only, lowered d o k l)

-- "exactly if every option so far is 2, every DLI3 so far is allowed and no number has been shown", since the last cfnr DLI1
number_only : {h h' : History} {flag flag' : ℕ} → StricterHistory h h' → StricterFlag flag flag' → T (may_show h' flag') → T (may_show h flag)
number_only (tightened h s f n low top marked less shut) kept t =
    let full : s ≡ 2 = search (and_l, and_r, eqb→eq) in
    let free : f ≡ 0 = search (and_l, and_r, eqb→eq) in
    let none : n ≡ 0 = search (and_l, and_r, eqb→eq) in
    let small : h.strictest ≤ 2 = small_now h s f n low top in
    let full-too : h.strictest ≡ 2 = omega arith in
    let free-too : h.forbidden ≡ 0 = marked free in
    let none-too : h.shown ≡ 0 = shut (full_now h s f n low top full) free none in
    search (and_l, and_i, eq→eqb)
number_only (tightened h s f n low top marked less shut) forbade t = absurd t

pub number_stricter : {h h' : History} {flag flag' : ℕ} (number : ℕ) → StricterHistory h h' → StricterFlag flag flag'
    → ShownOnlyWhere no_number (number_shown h flag number) (number_shown h' flag' number)
number_stricter number (tightened h s f n low top marked less shut) q = search (when_shown, number_only, tightened h s f n low top marked less shut)

-- A mark that a test sets.
clear : (b : Bool) (n : ℕ) → (when b then 1 else n) ≡ 0 → (T b → ⊥) × (n ≡ 0)
clear true n e = absurd (omega arith)
clear false n e = (λ t. t, e)

stays_clear : (b : Bool) (n : ℕ) → (T b → ⊥) → n ≡ 0 → (when b then 1 else n) ≡ 0
stays_clear true n not_set e = absurd (not_set tt)
stays_clear false n not_set e = e

-- a DLI3 that is the same in both runs
module _ (h : History) (s f n flag : ℕ) where
  free_after : (after_dli3 (restricted h s f n) flag).forbidden ≡ 0 → f ≡ 0
  free_after e = (clear (eqb flag forbidden) f e).1

  marked_after : (f ≡ 0 → h.forbidden ≡ 0) → (after_dli3 (restricted h s f n) flag).forbidden ≡ 0 → (after_dli3 h flag).forbidden ≡ 0
  marked_after marked e = stays_clear (eqb flag forbidden) h.forbidden (clear (eqb flag forbidden) f e).0 (marked (free_after e))

  -- where the stricter run could show a number and has shown none, the other has shown none either
  shown_same : s ≤ h.strictest → h.strictest ≤ highest h → (so_far h s ≡ 2 → f ≡ 0 → n ≡ 0 → h.shown ≡ 0)
      → so_far h s ≡ 2 → f ≡ 0 → (after_dli3 (restricted h s f n) flag).shown ≡ 0 → (after_dli3 h flag).shown ≡ 0
  shown_same low top shut full free e =
      let w = clear (may_show (restricted h s f n) flag) n e in
      stays_clear (may_show h flag) h.shown (λ t. w.0 (back t w.1)) (shut full free w.1)
    where
      back : T (may_show h flag) → n ≡ 0 → T (may_show (restricted h s f n) flag)
      back t none =
          let full-too : s ≡ 2 = full_seen h s f n low top (search (and_l, and_r, eqb→eq)) full in
          search (and_l, and_i, eq→eqb)

-- the shown mark of the stricter run is set only where the other's is
shown_less : {h h' : History} {flag flag' : ℕ} → StricterHistory h h' → StricterFlag flag flag' → (h.shown ≡ 0 → h'.shown ≡ 0)
    → (after_dli3 h flag).shown ≡ 0 → (after_dli3 h' flag').shown ≡ 0
shown_less {h} {h'} {flag} {flag'} p q less e =
    let w = clear (may_show h flag) h.shown e in
    stays_clear (may_show h' flag') h'.shown (λ t. w.0 (number_only p q t)) (less w.1)

-- a DLI3 is heard
pub dli3_stricter : {h h' : History} {flag flag' : ℕ} → StricterHistory h h' → StricterFlag flag flag' → StricterHistory (after_dli3 h flag) (after_dli3 h' flag')
dli3_stricter (tightened h s f n low top marked less shut) (kept {flag}) =
    let after : History = after_dli3 (restricted h s f n) flag in
    tightened (after_dli3 h flag) s after.forbidden after.shown low top (marked_after h s f n flag marked)
    (shown_less {flag = flag} (tightened h s f n low top marked less shut) kept less)
    (λ full e. shown_same h s f n flag low top shut full (free_after h s f n flag e))
dli3_stricter (tightened h s f n low top marked less shut) forbade =
    tightened (after_dli3 h allowed) s 1 n low top (λ e. absurd (omega arith))
    (shown_less (tightened h s f n low top marked less shut) forbade less) (λ full e. absurd (omega arith))

-- a history is as strict as itself
pub history_stricter : (h : History) → h.strictest ≤ highest h → StricterHistory h h
history_stricter h top = tightened h h.strictest h.forbidden h.shown (le_refl _) top (λ e. e) (λ e. e) (λ full free none. none)
