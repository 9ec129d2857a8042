-- A list of holders, each with one identifier or none: what is gathered from it, read place by place. Assumes nothing.
use Rattle.std.proofs.Common.{◌≡◌, ℕ, zero, suc, ◌<◌, ◌≤◌, Bool, true, false, T, eqb, List, [], ◌∷◌, ◌++◌, length, get_or, set, sym, refl, ap, suc-le-suc, zero-le, le_of_suc-le-suc, not-suc-le-zero, arith, eqb→eq, length-append}
use Rattle.ground.specs.Choice.{when◌then◌else◌}
use Rattle.ground.specs.Lists.{any}
use Rattle.ground.proofs.Bools.{or_inl, or_left, eq→eqb, is_true, from_true, when_has, by_cases}
use Rattle.identifier.specs.Identifier.{taken, distinct}
use Rattle.identifier.proofs.Joined.{taken_left, taken_right, taken_either, distinct_left, distinct_right, distinct_joined, parts_apart}
use Rattle.identifier.proofs.Gathered as gathered

abbrev pub own_of : {A : Type 0} → (A → Bool) → (A → ℕ) → A → List ℕ
own_of waits id_of x = when waits x then id_of x ∷ [] else []

-- a place that holds one
pub record Holds {A : Type 0} (waits : A → Bool) (id_of : A → ℕ) (d : A) (l : List A) (i k : ℕ) : Type 0 where
  pub within : i < length l
  pub asked : T (waits (get_or l i d))
  pub bears : id_of (get_or l i d) ≡ k

module _ {A : Type 0} (waits : A → Bool) (id_of : A → ℕ) where
  pub own_distinct : (x : A) → T (distinct (own_of waits id_of x))
  unfolding distinct any
  own_distinct x = when_has (λ held. T (distinct held)) (waits x) (λ _. tt) (λ _. tt)

  pub own_taken : (x : A) (k : ℕ) → T (taken (own_of waits id_of x) k) → T (waits x) × (k ≡ id_of x)
  unfolding any
  own_taken x k t = go (waits x) refl t
    where
      go : (b : Bool) → waits x ≡ b → T (taken (when b then id_of x ∷ [] else []) k) → T (waits x) × (k ≡ id_of x)
      go true q h = (from_true (waits x) q, eqb→eq k (id_of x) (or_left (eqb k (id_of x)) false (λ f. f) h))
      go false q h = absurd h

  pub taken_own : (x : A) (k : ℕ) → T (waits x) → id_of x ≡ k → T (taken (own_of waits id_of x) k)
  unfolding any
  taken_own x k w e = rw (is_true (waits x) w) (or_inl (eqb k (id_of x)) false (eq→eqb k (id_of x) (sym e)))

  own_length : (x : A) → length (own_of waits id_of x) ≤ 1
  own_length x = when_has (λ (held : List ℕ). length held ≤ 1) (waits x) (λ _. omega arith) (λ _. omega arith)

  module _ (gather : List A → List ℕ) (nil : gather [] ≡ []) (joins : (x : A) (rest : List A) → gather (x ∷ rest) ≡ own_of waits id_of x ++ gather rest) (d : A) where
    pub taken_at : (l : List A) (i k : ℕ) → Holds waits id_of d l i k → T (taken (gather l) k)
    taken_at [] i k o = absurd (not-suc-le-zero o.within)
    taken_at (x ∷ rest) zero k o = rw (joins x rest) (taken_left (own_of waits id_of x) (gather rest) k (taken_own x k o.asked o.bears))
    taken_at (x ∷ rest) (suc i) k o =
        rw (joins x rest)
        (taken_right (own_of waits id_of x) (gather rest) k (taken_at rest i k (record { within = le_of_suc-le-suc o.within; asked = o.asked; bears = o.bears })))

    pub place_of_lem : (l : List A) (k : ℕ) → T (taken (gather l) k) → (i : ℕ) × Holds waits id_of d l i k
    unfolding any
    place_of_lem [] k t = absurd (rw nil at t)
    place_of_lem (x ∷ rest) k t =
        let later : T (taken (gather rest) k) → (i : ℕ) × Holds waits id_of d (x ∷ rest) i k =
        λ u. let (i, o) = place_of_lem rest k u in (suc i, record { within = suc-le-suc o.within; asked = o.asked; bears = o.bears }) in
        taken_either (own_of waits id_of x) (gather rest) k
        (λ u. let (w, e) = own_taken x k u in (0, record { within = suc-le-suc zero-le; asked = w; bears = sym e })) later (rw (joins x rest) at t)

    pub apart_of : (l : List A) → T (distinct (gather l)) → (i j k : ℕ) → Holds waits id_of d l i k → Holds waits id_of d l j k → i ≡ j
    apart_of [] e i j k a b = absurd (not-suc-le-zero a.within)
    apart_of (x ∷ rest) e i j k a b = go i j (λ i j. apart_of rest (distinct_right (own_of waits id_of x) (gather rest) (rw (joins x rest) at e)) i j k) a b
      where
        e' : T (distinct (own_of waits id_of x ++ gather rest))
        e' = rw (joins x rest) at e

        down : (i : ℕ) → Holds waits id_of d (x ∷ rest) (suc i) k → Holds waits id_of d rest i k
        down i o = record { within = le_of_suc-le-suc o.within; asked = o.asked; bears = o.bears }

        clash : (i : ℕ) → Holds waits id_of d (x ∷ rest) 0 k → Holds waits id_of d rest i k → ⊥
        clash i o p = parts_apart (own_of waits id_of x) (gather rest) e' k (taken_own x k o.asked o.bears) (taken_at rest i k p)

        go : (i j : ℕ) → ((i j : ℕ) → Holds waits id_of d rest i k → Holds waits id_of d rest j k → i ≡ j) → Holds waits id_of d (x ∷ rest) i k → Holds waits id_of d (x ∷ rest) j k → i ≡ j
        go zero zero ih a b = refl
        go zero (suc j) ih a b = absurd (clash j a (down j b))
        go (suc i) zero ih a b = absurd (clash i b (down i a))
        go (suc i) (suc j) ih a b = ap suc (ih i j (down i a) (down j b))

    pub distinct_of : (l : List A) → ((i j k : ℕ) → Holds waits id_of d l i k → Holds waits id_of d l j k → i ≡ j) → T (distinct (gather l))
    unfolding distinct
    distinct_of [] f = rw nil tt
    distinct_of (x ∷ rest) f =
        let up : (i k : ℕ) → Holds waits id_of d rest i k → Holds waits id_of d (x ∷ rest) (suc i) k = λ i k o. record { within = suc-le-suc o.within; asked = o.asked; bears = o.bears } in
        rw (joins x rest)
        (distinct_joined (own_of waits id_of x) (gather rest) (own_distinct x)
        (distinct_of rest (λ i j k a b. let g = f (suc i) (suc j) k (up i k a) (up j k b) in omega arith))
        (λ k t u.
        let (w, e) = own_taken x k t in
        let (i, o) = place_of_lem rest k u in
        let z : 0 ≡ suc i = f 0 (suc i) k (record { within = suc-le-suc zero-le; asked = w; bears = sym e }) (up i k o) in
        omega arith))

    -- one is stored whose identifier, if it has one, none of the list has
    pub stored : (l : List A) (i : ℕ) (x : A) → i < length l → T (distinct (gather l)) → (T (waits x) → T (taken (gather l) (id_of x)) → ⊥) → T (distinct (gather (set l i x)))
    stored l i x h e f =
        gathered.distinct_set (own_of waits id_of) gather joins l i d x h e (own_distinct x)
        (λ k t u. let (r, q) = own_taken x k t in absurd (f r (rw q at u)))

    pub gathered_length : (l : List A) → length (gather l) ≤ length l
    gathered_length [] = rw nil zero-le
    gathered_length (x ∷ rest) =
        let a = gathered_length rest in
        let b = own_length x in
        rw (joins x rest, length-append (own_of waits id_of x) (gather rest)) (omega arith)

    -- of what is gathered after the store, an identifier that a list beside it has
    stored_clash : (b : List ℕ) (m : List A) (i : ℕ) (x : A) (k : ℕ) → i < length m → (T (taken (gather m) k) → T (taken b k) → ⊥)
        → (T (waits x) → T (taken b (id_of x)) → ⊥) → T (taken (gather (set m i x)) k) → T (taken b k) → ⊥
    stored_clash b m i x k h clear f t u =
        by_cases (taken (own_of waits id_of x) k)
        (λ y. let (w, e) = own_taken x k (from_true (taken (own_of waits id_of x) k) y) in f w (rw e at u))
        (λ y. clear (gathered.taken_set (own_of waits id_of) gather joins m i x k h (λ v. rw y at v) t) u)

    -- the same where the list stands before or behind another
    pub stored_before : (b : List ℕ) (l : List A) (i : ℕ) (x : A) → i < length l → T (distinct (gather l ++ b))
        → (T (waits x) → T (taken (gather l ++ b) (id_of x)) → ⊥) → T (distinct (gather (set l i x) ++ b))
    stored_before b l i x h e f =
        distinct_joined (gather (set l i x)) b
        (stored l i x h (distinct_left (gather l) b e) (λ w t. f w (taken_left (gather l) b (id_of x) t)))
        (distinct_right (gather l) b e)
        (λ k t u. stored_clash b l i x k h (parts_apart (gather l) b e k) (λ w v. f w (taken_right (gather l) b (id_of x) v)) t u)

    pub stored_behind : (b : List ℕ) (l : List A) (i : ℕ) (x : A) → i < length l → T (distinct (b ++ gather l))
        → (T (waits x) → T (taken (b ++ gather l) (id_of x)) → ⊥) → T (distinct (b ++ gather (set l i x)))
    stored_behind b l i x h e f =
        distinct_joined b (gather (set l i x)) (distinct_left b (gather l) e)
        (stored l i x h (distinct_right b (gather l) e) (λ w t. f w (taken_right b (gather l) (id_of x) t)))
        (λ k t u. stored_clash b l i x k h (λ p q. parts_apart b (gather l) e k q p) (λ w v. f w (taken_left b (gather l) (id_of x) v)) u t)
