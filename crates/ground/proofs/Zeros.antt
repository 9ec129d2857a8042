-- A sum of numbers side by side is 0 exactly where each part is. Assumes nothing.
use Prim.Native.Nat.{ℕ, zero, suc, ◌+◌, ◌*◌}
use mathlib.Core.Bool.{Bool, false, ◌&&◌}
use mathlib.Core.Path.{◌≡◌, refl, ap, ◌∙◌}
use native.Mathlib.Nat.{mul-suc}
use native.Mathlib.Omega.{arith}
use borrow.Author.Tests.{eq-eqb, ne_eqb}
use lib.Dec.{eqb}

not_0 : (a : ℕ) → eqb (suc a) 0 ≡ false
not_0 a = ne_eqb (suc a) 0 (λ (e : suc a ≡ 0). absurd (omega (arith, e)))

-- by a factor k + 1
zeros : (a b k : ℕ) → eqb (a + suc k * b) 0 ≡ (eqb a 0 && eqb b 0)
zeros zero zero k = eq-eqb (0 + suc k * 0) 0 (omega arith)
zeros zero (suc b) k = rw (not_0 b) (ne_eqb (0 + suc k * suc b) 0 (λ (e : 0 + suc k * suc b ≡ 0). absurd (omega (arith, e, mul-suc (suc k) b))))
zeros (suc a) b k = rw (not_0 a) (ne_eqb (suc a + suc k * b) 0 (λ (e : suc a + suc k * b ≡ 0). absurd (omega (arith, e))))

-- one part more
pub more : (x b k : ℕ) (t : Bool) → eqb x 0 ≡ t → eqb (x + suc k * b) 0 ≡ (t && eqb b 0)
more x b k t h = zeros x b k ∙ ap (λ (u : Bool). u && eqb b 0) h

-- up to six parts side by side
pub two : (a b j : ℕ) → eqb (a + suc j * b) 0 ≡ (eqb a 0 && eqb b 0)
two a b j = more a b j (eqb a 0) refl

pub three : (a b c j k : ℕ) → eqb (a + suc j * b + suc k * c) 0 ≡ (eqb a 0 && eqb b 0 && eqb c 0)
three a b c j k = more (a + suc j * b) c k (eqb a 0 && eqb b 0) (two a b j)

pub four : (a b c d j k l : ℕ) → eqb (a + suc j * b + suc k * c + suc l * d) 0 ≡ (eqb a 0 && eqb b 0 && eqb c 0 && eqb d 0)
four a b c d j k l = more (a + suc j * b + suc k * c) d l (eqb a 0 && eqb b 0 && eqb c 0) (three a b c j k)

pub five : (a b c d e j k l m : ℕ) → eqb (a + suc j * b + suc k * c + suc l * d + suc m * e) 0 ≡ (eqb a 0 && eqb b 0 && eqb c 0 && eqb d 0 && eqb e 0)
five a b c d e j k l m = more (a + suc j * b + suc k * c + suc l * d) e m (eqb a 0 && eqb b 0 && eqb c 0 && eqb d 0) (four a b c d j k l)

pub six : (a b c d e f j k l m n : ℕ) → eqb (a + suc j * b + suc k * c + suc l * d + suc m * e + suc n * f) 0 ≡ (eqb a 0 && eqb b 0 && eqb c 0 && eqb d 0 && eqb e 0 && eqb f 0)
six a b c d e f j k l m n = more (a + suc j * b + suc k * c + suc l * d + suc m * e) f n (eqb a 0 && eqb b 0 && eqb c 0 && eqb d 0 && eqb e 0) (five a b c d e j k l m)
