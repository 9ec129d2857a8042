-- The station's own requests behind the column of the calls'. Assumes nothing.
use Prim.Native.Nat.{ℕ, zero, suc, ◌+◌}
use mathlib.Core.Bool.{Bool, true, false, ◌||◌}
use mathlib.Core.List.{List, [], ◌∷◌, ◌++◌, map}
use mathlib.Core.Path.{◌≡◌, refl, ap, ◌∙◌}
use native.Mathlib.Omega.{arith}
use borrow.Author.Tests.{ne_eqb}
use lib.Dec.{eqb}
use lib.ListN.{length, set}
use Rattle.ground.specs.Choice.{when◌then◌else◌}
use Rattle.ground.specs.Lists.{any}
use Rattle.identifier.specs.Identifier.{after, taken, first_free}
use Rattle.timed.specs.Timed.{Timer, waiting, identifiers_of}
use Rattle.call.specs.declared.Call.{Call}
use Rattle.remote.specs.declared.Pendings.{Pendings}
use Rattle.remote.specs.Held.{timers_of}
use Rattle.station.specs.Table.{requests_of}
use Rattle.draw.specs.Column.{held_of, held_by, four_of, joined_of, first_free_in}
use Rattle.draw.proofs.Held.{same_number, held_taken}

set_behind : (l b : List ℕ) (i n x : ℕ) → n ≡ length l + i → set (l ++ b) n x ≡ l ++ set b i x
set_behind [] b i n x e = let q : n ≡ i = omega (arith, e) in rw q
set_behind (y ∷ ys) b i zero x e = absurd (omega (arith, e))
set_behind (y ∷ ys) b i (suc n) x e = ap (λ (r : List ℕ). y ∷ r) (set_behind ys b i n x (omega (arith, e)))

pub four_stored : (l : List ℕ) (a b c d : ℕ) → length l ≡ 64
    → set (set (set (set (l ++ (0 ∷ 0 ∷ 0 ∷ 0 ∷ [])) 64 a) 65 b) 66 c) 67 d ≡ l ++ (a ∷ b ∷ c ∷ d ∷ [])
four_stored l a b c d e =
    rw (
      set_behind l (0 ∷ 0 ∷ 0 ∷ 0 ∷ []) 0 64 a (omega (arith, e)),
      set_behind l (a ∷ 0 ∷ 0 ∷ 0 ∷ []) 1 65 b (omega (arith, e)),
      set_behind l (a ∷ b ∷ 0 ∷ 0 ∷ []) 2 66 c (omega (arith, e)),
      set_behind l (a ∷ b ∷ c ∷ 0 ∷ []) 3 67 d (omega (arith, e)),
    )

pub any_append : (p : ℕ → Bool) (a b : List ℕ) → any p (a ++ b) ≡ any p a || any p b
unfolding any
any_append p [] b = refl
any_append p (x ∷ xs) b = go (p x) (any_append p xs b)
  where
    go : (t : Bool) → any p (xs ++ b) ≡ any p xs || any p b → t || any p (xs ++ b) ≡ (t || any p xs) || any p b
    go true h = refl
    go false h = h

-- the requests of a list of timers
pub timers_taken : (l : List Timer) (n : ℕ) → any (eqb (n + 1)) (map (λ t. held_of t.request) l) ≡ taken (identifiers_of l) n
unfolding any identifiers_of
timers_taken [] n = refl
timers_taken (t ∷ ts) n = go (waiting t) (timers_taken ts n)
  where
    k : ℕ
    k = t.request.identifier

    go : (b : Bool) → any (eqb (n + 1)) (map (λ u. held_of u.request) ts) ≡ taken (identifiers_of ts) n
        → eqb (n + 1) (when b then k + 1 else 0) || any (eqb (n + 1)) (map (λ u. held_of u.request) ts) ≡ taken ((when b then k ∷ [] else []) ++ identifiers_of ts) n
    go true h = rw (same_number n k, h)
    go false h = rw (ne_eqb (n + 1) 0 (λ e. omega arith), h)

pub joined_taken : (l : List Call) (p : Pendings) (n : ℕ) → any (eqb (n + 1)) (joined_of (map held_by l) p) ≡ taken (requests_of l ++ identifiers_of (timers_of p)) n
joined_taken l p n =
    any_append (eqb (n + 1)) (map held_by l) (four_of p)
    ∙ rw (held_taken l n, timers_taken (timers_of p) n, any_append (eqb n) (requests_of l) (identifiers_of (timers_of p)))

-- the identifier found in the column is the one that the definition draws
pub joined_free : (k : ℕ) (l : List Call) (p : Pendings) (n : ℕ)
    → first_free_in k (joined_of (map held_by l) p) n ≡ first_free k (requests_of l ++ identifiers_of (timers_of p)) n
unfolding first_free_in first_free
joined_free zero l p n = refl
joined_free (suc k) l p n = rw (joined_taken l p n, joined_free k l p (after n))
