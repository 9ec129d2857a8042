-- The places behind the first. Assumes nothing.
use Prim.Native.Nat.{ℕ, zero, suc, ◌+◌, ◌-◌, ◌<◌}
use mathlib.Core.List.{List, [], ◌∷◌}
use mathlib.Core.Path.{◌≡◌, refl}
use native.Mathlib.Nat.{le_of_suc-le-suc, not-suc-le-zero}
use native.Mathlib.Numerals.{add-one, unary_clauses}
use lib.ListN.{length, get_or, take}
use Rattle.notice.specs.declared.Dli1.{Dli1}
use Rattle.notice.specs.declared.History.{History}
use Rattle.notice.specs.Notice.{after_dli1}
use Rattle.waits.specs.Waits.{last_after, after_all}

-- the next one reaches the CDO
after_more' : (h : History) (l : List Dli1) (i : ℕ) (d : Dli1) → i < length l → after_all h (take (suc i) l) ≡ after_dli1 (after_all h (take i l)) (get_or l i d)
unfolding after_all
after_more' h [] i d k = absurd (not-suc-le-zero k)
after_more' h (x ∷ l) zero d k = refl
after_more' h (x ∷ l) (suc i) d k = after_more' (after_dli1 h x) l i d (le_of_suc-le-suc k)

pub after_more : (h : History) (l : List Dli1) (i : ℕ) (d : Dli1) → i < length l → after_all h (take (i + 1) l) ≡ after_dli1 (after_all h (take i l)) (get_or l i d)
after_more h l i d k = rw add-one (after_more' h l i d k)

-- the last one, or where there is none the one before them
pub last_read : (f : Dli1) (l : List Dli1) → last_after f l ≡ (get_or l (length l - 1) f).number
unfolding last_after
last_read f [] = refl
last_read f (x ∷ []) = refl
last_read f (x ∷ y ∷ l) = simp unary_clauses (simp unary_clauses at (last_read f (y ∷ l)))
