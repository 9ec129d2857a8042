-- `taken` and `distinct` over lists that are joined, and over one whose middle part is exchanged: a table of which one
-- record is replaced holds the identifiers before, of, and after that record. Assumes nothing.
use Rattle.std.proofs.Common.{◌≡◌, ℕ, Bool, true, false, ◌||◌, T, eqb, List, [], ◌∷◌, ◌++◌, refl, ap, ◌∙◌, eqb→eq}
use lib.Dec.{eqb_refl}
use Rattle.ground.specs.Lists.{any}
use Rattle.ground.proofs.Bools.{or_inl, or_inr}
use Rattle.identifier.specs.Identifier.{taken, distinct}
use Rattle.identifier.proofs.Reading.{head_apart, tail_distinct, distinct_cons}

or_assoc : (a b c : Bool) → a || (b || c) ≡ (a || b) || c
or_assoc true b c = refl
or_assoc false b c = refl

or_either : (a b : Bool) {P : Type 0} → (T a → P) → (T b → P) → T (a || b) → P
or_either true b f g t = f t
or_either false b f g t = g t

pub taken_joined : (a b : List ℕ) (x : ℕ) → taken (a ++ b) x ≡ taken a x || taken b x
unfolding any
taken_joined [] b x = refl
taken_joined (y ∷ ys) b x = ap (λ t. eqb x y || t) (taken_joined ys b x) ∙ or_assoc (eqb x y) (taken ys x) (taken b x)

pub taken_left : (a b : List ℕ) (x : ℕ) → T (taken a x) → T (taken (a ++ b) x)
taken_left a b x t = rw taken_joined (or_inl (taken a x) (taken b x) t)

pub taken_right : (a b : List ℕ) (x : ℕ) → T (taken b x) → T (taken (a ++ b) x)
taken_right a b x t = rw taken_joined (or_inr (taken a x) (taken b x) t)

pub taken_either : (a b : List ℕ) (x : ℕ) {P : Type 0} → (T (taken a x) → P) → (T (taken b x) → P) → T (taken (a ++ b) x) → P
taken_either a b x f g t = or_either (taken a x) (taken b x) f g (rw taken_joined at t)

-- both parts are distinct, and they share none
pub distinct_left : (a b : List ℕ) → T (distinct (a ++ b)) → T (distinct a)
unfolding distinct
distinct_left [] b d = tt
distinct_left (y ∷ ys) b d =
    distinct_cons y ys (distinct_left ys b (tail_distinct y (ys ++ b) d)) (λ t. head_apart y (ys ++ b) d (taken_left ys b y t))

pub distinct_right : (a b : List ℕ) → T (distinct (a ++ b)) → T (distinct b)
distinct_right [] b d = d
distinct_right (y ∷ ys) b d = distinct_right ys b (tail_distinct y (ys ++ b) d)

pub parts_apart : (a b : List ℕ) → T (distinct (a ++ b)) → (x : ℕ) → T (taken a x) → T (taken b x) → ⊥
unfolding any
parts_apart [] b d x t u = t
parts_apart (y ∷ ys) b d x t u =
    or_either (eqb x y) (taken ys x)
    (λ e. head_apart y (ys ++ b) d (taken_right ys b y (rw (← eqb→eq x y e) u)))
    (λ v. parts_apart ys b (tail_distinct y (ys ++ b) d) x v u) t

pub distinct_joined : (a b : List ℕ) → T (distinct a) → T (distinct b) → ((x : ℕ) → T (taken a x) → T (taken b x) → ⊥) → T (distinct (a ++ b))
unfolding any
distinct_joined [] b d e n = e
distinct_joined (y ∷ ys) b d e n =
    distinct_cons y (ys ++ b) (distinct_joined ys b (tail_distinct y ys d) e (λ x t. n x (or_inr (eqb x y) (taken ys x) t)))
    (λ t. taken_either ys b y (head_apart y ys d) (n y (or_inl (eqb y y) (taken ys y) (eqb_refl y))) t)

-- the middle part is exchanged for another, none of which the rest holds
pub distinct_exchanged : (a m n b : List ℕ) → T (distinct (a ++ (m ++ b))) → T (distinct n) → ((x : ℕ) → T (taken n x) → T (taken (a ++ b) x) → ⊥) → T (distinct (a ++ (n ++ b)))
distinct_exchanged a m n b d e f =
    distinct_joined a (n ++ b) (distinct_left a (m ++ b) d)
    (distinct_joined n b e (distinct_right m b (distinct_right a (m ++ b) d)) (λ x t u. f x t (taken_right a b x u)))
    (λ x t u. taken_either n b x (λ v. f x v (taken_left a b x t)) (λ v. parts_apart a (m ++ b) d x t (taken_right m b x v)) u)
