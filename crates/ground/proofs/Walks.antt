-- One turn of a loop that walks through a list by a test, for any test. Assumes nothing.
use Prim.Native.Nat.{ℕ, zero, suc, ◌+◌, ◌≤◌, ◌<◌}
use mathlib.Core.Bool.{Bool, true, false, ◌&&◌, ◌||◌, false≢true}
use mathlib.Core.List.{List, [], ◌∷◌, map}
use mathlib.Core.Path.{◌≡◌, refl, sym, ap, ◌∙◌}
use native.Mathlib.Nat.{le_of_suc-le-suc, not-suc-le-zero}
use native.Mathlib.Numerals.{add-one}
use native.Mathlib.Omega.{arith}
use lib.ListN.{length, get_or, take, set, length-map}
use Rattle.ground.specs.Choice.{when◌then◌else◌}
use Rattle.ground.specs.Lists.{first, all, any}

-- of an array of structs that is a field: owning the struct tells the length of the list of their parts
pub mapped_long : (X Y : Type 0) (f : X → Y) (l : List X) (n : ℕ) → length (map f l) ≡ n → length l ≡ n
mapped_long X Y f l n e = sym (length-map l f) ∙ e

past : (b : Bool) (m i : ℕ) → (when b then 0 else suc m) ≡ suc i → (b ≡ false) × (m ≡ i)
past true m i e = absurd (omega (arith, e))
past false m i e = (refl, omega (arith, e))

pub both : (a b : Bool) → a && b ≡ true → (a ≡ true) × (b ≡ true)
both true b e = (refl, e)
both false b e = (e, absurd (false≢true e))

pub neither : (a b : Bool) → a || b ≡ false → (a ≡ false) × (b ≡ false)
neither true b e = (e, absurd (false≢true (sym e)))
neither false b e = (refl, e)

pub and_false : (a : Bool) → a && false ≡ false
and_false true = refl
and_false false = refl

pub or_true : (a : Bool) → a || true ≡ true
or_true true = refl
or_true false = refl

pub or_false : (a : Bool) → a || false ≡ a
or_false true = refl
or_false false = refl

module _ {A : Type 0} (p : A → Bool) where
  first_on' : (l : List A) (i : ℕ) (d : A) → i < length l → first p (take i l) ≡ i → p (get_or l i d) ≡ false → first p (take (suc i) l) ≡ suc i
  unfolding first
  first_on' [] i d h e q = absurd (not-suc-le-zero h)
  first_on' (x ∷ xs) zero d h e q = simp q
  first_on' (x ∷ xs) (suc i) d h e q =
      let w = past (p x) (first p (take i xs)) i e in
      simp (w.0, first_on' xs i d (le_of_suc-le-suc h) w.1 q)

  -- none of the first i passes, nor does the next
  pub first_on : (l : List A) (i : ℕ) (d : A) → i < length l → first p (take i l) ≡ i → p (get_or l i d) ≡ false → first p (take (i + 1) l) ≡ i + 1
  first_on l i d h e q = rw add-one (first_on' l i d h e q)

  -- none of the first i passes, and the next does
  pub first_at : (l : List A) (i n : ℕ) (d : A) → i < n → n ≤ length l → first p (take i l) ≡ i → p (get_or l i d) ≡ true → first p (take n l) ≡ i
  unfolding first
  first_at l i zero d h k e q = absurd (not-suc-le-zero h)
  first_at [] i (suc n) d h k e q = absurd (not-suc-le-zero k)
  first_at (x ∷ xs) zero (suc n) d h k e q = simp q
  first_at (x ∷ xs) (suc i) (suc n) d h k e q =
      let w = past (p x) (first p (take i xs)) i e in
      simp (w.0, first_at xs i n d (le_of_suc-le-suc h) (le_of_suc-le-suc k) w.1 q)

  all_on' : (l : List A) (i : ℕ) (d : A) → i < length l → all p (take i l) ≡ true → p (get_or l i d) ≡ true → all p (take (suc i) l) ≡ true
  unfolding all
  all_on' [] i d h e q = absurd (not-suc-le-zero h)
  all_on' (x ∷ xs) zero d h e q = simp q
  all_on' (x ∷ xs) (suc i) d h e q =
      let w = both (p x) (all p (take i xs)) e in
      simp (w.0, all_on' xs i d (le_of_suc-le-suc h) w.1 q)

  pub all_on : (l : List A) (i : ℕ) (d : A) → i < length l → all p (take i l) ≡ true → p (get_or l i d) ≡ true → all p (take (i + 1) l) ≡ true
  all_on l i d h e q = rw add-one (all_on' l i d h e q)

  pub all_off : (l : List A) (i n : ℕ) (d : A) → i < n → n ≤ length l → p (get_or l i d) ≡ false → all p (take n l) ≡ false
  unfolding all
  all_off l i zero d h k q = absurd (not-suc-le-zero h)
  all_off [] i (suc n) d h k q = absurd (not-suc-le-zero k)
  all_off (x ∷ xs) zero (suc n) d h k q = simp q
  all_off (x ∷ xs) (suc i) (suc n) d h k q = simp (all_off xs i n d (le_of_suc-le-suc h) (le_of_suc-le-suc k) q, and_false)

-- one element replaced by another that passes
pub all_set : {A : Type 0} (p : A → Bool) (l : List A) (i : ℕ) (x : A) → all p l ≡ true → p x ≡ true → all p (set l i x) ≡ true
unfolding all
all_set p [] i x h q = refl
all_set p (y ∷ ys) zero x h q = simp (q, (both (p y) (all p ys) h).1)
all_set p (y ∷ ys) (suc i) x h q = let w = both (p y) (all p ys) h in simp (w.0, all_set p ys i x w.1 q)

-- what holds of each holds of one
pub all_get : {A : Type 0} (p : A → Bool) (l : List A) (i : ℕ) (d : A) → all p l ≡ true → i < length l → p (get_or l i d) ≡ true
unfolding all
all_get p [] i d h k = absurd (not-suc-le-zero k)
all_get p (y ∷ ys) zero d h k = (both (p y) (all p ys) h).0
all_get p (y ∷ ys) (suc i) d h k = all_get p ys i d (both (p y) (all p ys) h).1 (le_of_suc-le-suc k)

or_assoc : (a b c : Bool) → (a || b) || c ≡ a || (b || c)
or_assoc true b c = refl
or_assoc false b c = refl

module _ {A : Type 0} (p : A → Bool) where
  any_next' : (l : List A) (i : ℕ) (d : A) → i < length l → any p (take (suc i) l) ≡ any p (take i l) || p (get_or l i d)
  unfolding any
  any_next' [] i d h = absurd (not-suc-le-zero h)
  any_next' (x ∷ xs) zero d h = or_false (p x)
  any_next' (x ∷ xs) (suc i) d h = ap (λ b. p x || b) (any_next' xs i d (le_of_suc-le-suc h)) ∙ sym (or_assoc (p x) (any p (take i xs)) (p (get_or xs i d)))

  -- one of the first i passes, or the next does
  pub any_next : (l : List A) (i : ℕ) (d : A) → i < length l → any p (take (i + 1) l) ≡ any p (take i l) || p (get_or l i d)
  any_next l i d h = rw add-one (any_next' l i d h)
