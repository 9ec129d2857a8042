-- Tests joined: what a conjunction, a disjunction and a denial tell. Assumes nothing.
use Prim.Native.Nat.{ℕ}
use mathlib.Core.Path.{◌≡◌, refl, sym}
use mathlib.Core.Bool.{Bool, true, false, not, ◌&&◌, ◌||◌, false≢true}
use lib.Dec.{T, eqb, eqb_refl}
use Rattle.ground.specs.Choice.{when◌then◌else◌}

pub and_l : (a b : Bool) → T (a && b) → T a
and_l true b t = tt
and_l false b t = t

pub and_r : (a b : Bool) → T (a && b) → T b
and_r true b t = t
and_r false b t = absurd t

pub and_i : (a b : Bool) → T a → T b → T (a && b)
and_i true b s t = t
and_i false b s t = s

pub and_true : (a : Bool) → a && true ≡ a
and_true true = refl
and_true false = refl

pub and_assoc : (a b c : Bool) → a && (b && c) ≡ a && b && c
and_assoc true b c = refl
and_assoc false b c = refl

pub or_inl : (a b : Bool) → T a → T (a || b)
or_inl true b h = h
or_inl false b h = absurd h

pub or_inr : (a b : Bool) → T b → T (a || b)
or_inr true b h = tt
or_inr false b h = h

pub or_right : (a b : Bool) → (T a → ⊥) → T (a || b) → T b
or_right true b n h = absurd (n tt)
or_right false b n h = h

pub or_left : (a b : Bool) → (T b → ⊥) → T (a || b) → T a
or_left true b n h = h
or_left false b n h = absurd (n h)

pub nor_l : (a b : Bool) → T (not (a || b)) → T (not a)
nor_l true b t = t
nor_l false b t = tt

pub nor_r : (a b : Bool) → T (not (a || b)) → T (not b)
nor_r true b t = absurd t
nor_r false b t = t

pub nor_i : (a b : Bool) → T (not a) → T (not b) → T (not (a || b))
nor_i true b s t = s
nor_i false b s t = t

pub not_not : (b : Bool) → T (not (not b)) → T b
not_not true t = t
not_not false t = t

pub trivial : T true
trivial = tt

-- a test that holds, as an equation, and back
pub is_true : (b : Bool) → T b → b ≡ true
is_true true t = refl
is_true false t = absurd t

pub is_false : (b : Bool) → T (not b) → b ≡ false
is_false true t = absurd t
is_false false t = refl

pub from_true : (b : Bool) → b ≡ true → T b
from_true true e = tt
from_true false e = absurd (false≢true e)

pub from_false : (b : Bool) → b ≡ false → T (not b)
from_false true e = absurd (false≢true (sym e))
from_false false e = tt

pub eq→eqb : (a b : ℕ) → a ≡ b → T (eqb a b)
eq→eqb a b e = rw e (eqb_refl b)

-- by cases on a test, with its equation
pub by_cases : (b : Bool) {P : Type 0} → (b ≡ true → P) → (b ≡ false → P) → P
by_cases true t f = t refl
by_cases false t f = f refl

-- a decision keeps what both its values have
pub when_has : {A : Type 0} (P : A → Type 0) (b : Bool) {x y : A} → (T b → P x) → (T (not b) → P y) → P (when b then x else y)
when_has P true p q = p tt
when_has P false p q = q tt

-- the outcome t of a test b was denied, or not
pub denied : (t b : Bool) → t ≡ b → not t ≡ true → b ≡ false
denied true b e d = absurd (false≢true d)
denied false b e d = sym e

pub upheld : (t b : Bool) → t ≡ b → not t ≡ false → b ≡ true
upheld true b e d = sym e
upheld false b e d = absurd (false≢true (sym d))
