-- Ways into a definition that goes by tests: what a branch of the code showed picks the same case of the definition. Assumes nothing.
use Prim.Native.Nat.{ℕ, ◌≤◌, ◌<◌}
use mathlib.Core.Bool.{Bool, true, false}
use mathlib.Core.Path.{◌≡◌, sym, ◌∙◌}
use lib.Dec.{eqb, ltb, leb}
use borrow.Author.Tests.{lt-ltb, le-ltb, le-leb, lt-leb, eq-eqb, ne_eqb}
use Rattle.ground.specs.Choice.{when◌then◌else◌}

-- the test is a call of a predicate, t, whose contract says b
pub yes : {A : Type 0} (t b : Bool) (r x y : A) → t ≡ b → t ≡ true → r ≡ x → r ≡ when b then x else y
yes t b r x y p q h = simp (sym p ∙ q) h

pub no : {A : Type 0} (t b : Bool) (r x y : A) → t ≡ b → t ≡ false → r ≡ y → r ≡ when b then x else y
no t b r x y p q h = simp (sym p ∙ q) h

pub so : {A : Type 0} (b : Bool) (r x y : A) → b ≡ true → r ≡ x → r ≡ when b then x else y
so b r x y q h = simp q h

pub nope : {A : Type 0} (b : Bool) (r x y : A) → b ≡ false → r ≡ y → r ≡ when b then x else y
nope b r x y q h = simp q h

pub is : {A : Type 0} (m n : ℕ) (r x y : A) → m ≡ n → r ≡ x → r ≡ when eqb m n then x else y
is m n r x y p h = simp (eq-eqb m n p) h

pub isnt : {A : Type 0} (m n : ℕ) (r x y : A) → (m ≡ n → ⊥) → r ≡ y → r ≡ when eqb m n then x else y
isnt m n r x y p h = simp (ne_eqb m n p) h

pub below : {A : Type 0} (m n : ℕ) (r x y : A) → m < n → r ≡ x → r ≡ when ltb m n then x else y
below m n r x y p h = simp (lt-ltb m n p) h

pub notbelow : {A : Type 0} (m n : ℕ) (r x y : A) → n ≤ m → r ≡ y → r ≡ when ltb m n then x else y
notbelow m n r x y p h = simp (le-ltb m n p) h

pub upto : {A : Type 0} (m n : ℕ) (r x y : A) → m ≤ n → r ≡ x → r ≡ when leb m n then x else y
upto m n r x y p h = simp (le-leb m n p) h

pub notupto : {A : Type 0} (m n : ℕ) (r x y : A) → n < m → r ≡ y → r ≡ when leb m n then x else y
notupto m n r x y p h = simp (lt-leb m n p) h

pub ruleset ways = (is, isnt, below, notbelow, upto, notupto, so, nope)

-- where a test is a call of a predicate
pub ruleset asked = (yes, no)
