-- One turn of a loop through the places behind the first, and what the walk through all of them tells. Assumes nothing.
use Prim.Native.Nat.{ℕ, zero, suc, ◌+◌, ◌≤◌, ◌<◌}
use mathlib.Core.Bool.{Bool, true, false, ◌&&◌}
use mathlib.Core.List.{List, [], ◌∷◌}
use mathlib.Core.Path.{◌≡◌, refl, sym, ap, ◌∙◌}
use native.Mathlib.Nat.{le_of_suc-le-suc, not-suc-le-zero}
use native.Mathlib.Numerals.{add-one}
use native.Mathlib.Omega.{arith}
use lib.Dec.{eqb, leb}
use borrow.Author.Tests.{le-leb, lt-leb, eq-eqb, eqb-true}
use lib.ListN.{length, get_or, take, drop}
use Rattle.ground.specs.Choice.{when◌then◌else◌}
use Rattle.ground.specs.Lists.{all}
use Rattle.ground.proofs.Bools.{by_cases, and_true, and_assoc}
use Rattle.ground.proofs.Zeros.{six}
use Rattle.notice.specs.declared.Dli1.{Dli1}
use Rattle.waits.specs.declared.Waits.{Waits}
use Rattle.waits.specs.Waits.{behind}
use Rattle.waits.specs.Soundness.{dli1_unused, first_holds, later_holds, places_there, later_hold, later_unused, waits_hold, place_holds}
use Rattle.soundwaits.specs.Words.{pair_word}

-- two places side by side as one number
pub pair_unused : (a b : Dli1) → eqb (pair_word a b) 0 ≡ dli1_unused a && dli1_unused b
pair_unused a b =
    six a.reason a.option a.number b.reason b.option b.number 255 65535 4294967295 1099511627775 281474976710655
    ∙ sym (and_assoc (dli1_unused a) (eqb b.reason 0 && eqb b.option 0) (eqb b.number 0)
    ∙ ap (λ t. t && eqb b.number 0) (and_assoc (dli1_unused a) (eqb b.reason 0) (eqb b.option 0)))

-- the places from k on, where n wait
unfoldable pub places_hold : ℕ → ℕ → List Dli1 → Bool
places_hold n k [] = true
places_hold n k (d ∷ l) = place_holds n k d && places_hold n (suc k) l

-- one more place is tested
places_more' : (n k : ℕ) (l : List Dli1) (i : ℕ) (d : Dli1) → i < length l
    → places_hold n k (take (suc i) l) ≡ places_hold n k (take i l) && place_holds n (k + i) (get_or l i d)
unfolding places_hold
places_more' n k [] i d h = absurd (not-suc-le-zero h)
places_more' n k (x ∷ l) zero d h = let e : k + 0 ≡ k = omega arith in rw e (and_true (place_holds n k x))
places_more' n k (x ∷ l) (suc i) d h =
    let e : k + suc i ≡ suc k + i = omega arith in
    rw (e, places_more' n (suc k) l i d (le_of_suc-le-suc h)) (and_assoc (place_holds n k x) _ _)

pub places_more : (n : ℕ) (l : List Dli1) (i : ℕ) (d : Dli1) (ok b : Bool) → i < length l → ok ≡ b && places_hold n 0 (take i l)
    → ok && place_holds n i (get_or l i d) ≡ b && places_hold n 0 (take (i + 1) l)
places_more n l i d ok b h e =
    let z : 0 + i ≡ i = omega arith in
    rw (e, add-one, places_more' n 0 l i d h, z) (sym (and_assoc b (places_hold n 0 (take i l)) (place_holds n i (get_or l i d))))

-- m of the places from k on are used
places_read : (n m k : ℕ) (l : List Dli1) → n ≡ m + k → places_hold n k l ≡ all later_holds (take m l) && all dli1_unused (drop m l)
unfolding places_hold all
places_read n zero k [] e = refl
places_read n (suc m) k [] e = refl
places_read n zero k (x ∷ l) e = unused_on n k (x ∷ l) (omega arith)
  where
    unused_on : (n i : ℕ) (l : List Dli1) → n ≤ i → places_hold n i l ≡ all dli1_unused l
    unused_on n i [] h = refl
    unused_on n i (x ∷ l) h = rw (le-leb n i h, unused_on n (suc i) l (omega arith))
places_read n (suc m) k (x ∷ l) e =
    rw (lt-leb n k (omega arith), places_read n m (suc k) l (omega arith)) (and_assoc (later_holds x) (all later_holds (take m l)) (all dli1_unused (drop m l)))

-- the places one by one, and the list that waits beside the places that are not used
pub held_read : (w : Waits) → length w.later ≡ 14 → leb w.count 14 && places_hold w.count 0 w.later ≡ later_hold w
held_read w long =
    let e : w.count ≡ w.count + 0 = omega arith in
    rw (eq-eqb (length w.later) 14 long, places_read w.count w.count 0 w.later e)
    (and_assoc (leb w.count 14) (all later_holds (behind w)) (all dli1_unused (drop w.count w.later)))

all_more' : {A : Type 0} (p : A → Bool) (l : List A) (i : ℕ) (d : A) → i < length l → all p (take (suc i) l) ≡ all p (take i l) && p (get_or l i d)
unfolding all
all_more' p [] i d h = absurd (not-suc-le-zero h)
all_more' p (x ∷ l) zero d h = and_true (p x)
all_more' p (x ∷ l) (suc i) d h = rw (all_more' p l i d (le_of_suc-le-suc h)) (and_assoc (p x) (all p (take i l)) (p (get_or l i d)))

-- one more element is tested
pub all_more : {A : Type 0} (p : A → Bool) (l : List A) (i : ℕ) (d : A) (ok b : Bool) → i < length l → ok ≡ b && all p (take i l)
    → ok && p (get_or l i d) ≡ b && all p (take (i + 1) l)
all_more p l i d ok b h e = rw (e, add-one, all_more' p l i d h) (sym (and_assoc b (all p (take i l)) (p (get_or l i d))))

-- where the first waits alone, no place behind it is used
alone : (w : Waits) → eqb w.count 0 ≡ true → later_hold w ≡ later_unused w
unfolding all
alone w t = rw (eqb-true w.count 0 t) (ap (λ (b : Bool). b && all dli1_unused w.later) (and_true (places_there w && true)))

-- what waits, by cases
pub waits_by : (w : Waits) → waits_hold w ≡ (when first_holds w.first then (when eqb w.count 0 then later_unused w else later_hold w) else false)
unfolding waits_hold
waits_by w =
    by_cases (first_holds w.first)
    (λ t. rw t (by_cases (eqb w.count 0) (λ z. rw z (rw z at (alone w z))) (λ z. rw z)))
    (λ f. rw f)
