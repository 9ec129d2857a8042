-- A list of identifiers that is gathered from the records of a table, each with those of its own, when one record is replaced.
-- Assumes nothing.
use Rattle.std.proofs.Common.{◌≡◌, ℕ, zero, suc, ◌<◌, T, List, [], ◌∷◌, ◌++◌, length, get_or, set, sym, refl, ap, ◌∙◌, le_of_suc-le-suc, not-suc-le-zero}
use Rattle.identifier.specs.Identifier.{taken, distinct}
use Rattle.identifier.proofs.Joined.{taken_left, taken_right, taken_either, distinct_right, parts_apart, distinct_exchanged}

append_assoc : (a b c : List ℕ) → (a ++ b) ++ c ≡ a ++ (b ++ c)
append_assoc [] b c = refl
append_assoc (x ∷ xs) b c = ap (λ r. x ∷ r) (append_assoc xs b c)

-- the middle part is exchanged for one that shares only with that part
own_exchanged : (a m n b : List ℕ) → T (distinct (a ++ (m ++ b))) → T (distinct n)
    → ((k : ℕ) → T (taken n k) → T (taken (a ++ (m ++ b)) k) → T (taken m k)) → T (distinct (a ++ (n ++ b)))
own_exchanged a m n b d e f = distinct_exchanged a m n b d e clear
  where
    clear : (k : ℕ) → T (taken n k) → T (taken (a ++ b) k) → ⊥
    clear k t u =
        taken_either a b k
        (λ v. parts_apart a (m ++ b) d k v (taken_left m b k (f k t (taken_left a (m ++ b) k v))))
        (λ v. parts_apart m b (distinct_right a (m ++ b) d) k (f k t (taken_right a (m ++ b) k (taken_right m b k v))) v) u

own_taken : (a m n b : List ℕ) (k : ℕ) → (T (taken n k) → ⊥) → T (taken (a ++ (n ++ b)) k) → T (taken (a ++ (m ++ b)) k)
own_taken a m n b k f t =
    taken_either a (n ++ b) k (taken_left a (m ++ b) k)
    (λ u. taken_right a (m ++ b) k (taken_right m b k (taken_either n b k (λ v. absurd (f v)) (λ v. v) u))) t

module _ {A : Type 0} (own : A → List ℕ) (gather : List A → List ℕ) (joins : (c : A) (rest : List A) → gather (c ∷ rest) ≡ own c ++ gather rest) where
  -- the parts before and after a place, which a replacement leaves
  record Split (calls : List A) (i : ℕ) (d x : A) : Type 0 where
    ahead : List ℕ
    behind : List ℕ
    was : gather calls ≡ ahead ++ (own (get_or calls i d) ++ behind)
    will : gather (set calls i x) ≡ ahead ++ (own x ++ behind)

  split : (calls : List A) (i : ℕ) (d x : A) → i < length calls → Split calls i d x
  split [] i d x h = absurd (not-suc-le-zero h)
  split (c ∷ rest) zero d x h = record { ahead = []; behind = gather rest; was = joins c rest; will = joins x rest }
  split (c ∷ rest) (suc i) d x h =
      let s = split rest i d x (le_of_suc-le-suc h) in
      record {
        ahead = own c ++ s.ahead;
        behind = s.behind;
        was = joins c rest ∙ ap (λ l. own c ++ l) s.was ∙ sym (append_assoc (own c) s.ahead _);
        will = joins c (set rest i x) ∙ ap (λ l. own c ++ l) s.will ∙ sym (append_assoc (own c) s.ahead _);
      }

  -- the new record's identifiers may be ones of the record that it replaces, and of no other
  pub distinct_set : (calls : List A) (i : ℕ) (d x : A) → i < length calls → T (distinct (gather calls)) → T (distinct (own x))
      → ((k : ℕ) → T (taken (own x) k) → T (taken (gather calls) k) → T (taken (own (get_or calls i d)) k)) → T (distinct (gather (set calls i x)))
  distinct_set calls i d x h e o f =
      let s = split calls i d x h in
      rw s.will (own_exchanged s.ahead (own (get_or calls i d)) (own x) s.behind (rw s.was at e) o (λ k t u. f k t (rw s.was u)))

  -- after the replacement an identifier is the new record's, or was taken before
  pub taken_set : (calls : List A) (i : ℕ) (x : A) (k : ℕ) → i < length calls → (T (taken (own x) k) → ⊥) → T (taken (gather (set calls i x)) k) → T (taken (gather calls) k)
  taken_set calls i x k h n t =
      let s = split calls i x x h in
      rw s.was (own_taken s.ahead (own (get_or calls i x)) (own x) s.behind k n (rw s.will at t))
