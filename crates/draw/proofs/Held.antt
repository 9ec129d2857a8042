-- The column of the calls' identifiers finds what the definition finds in the table. Assumes nothing.
use Prim.Native.Nat.{ℕ, zero, suc, ◌+◌}
use mathlib.Core.Bool.{Bool, true, false, ◌||◌}
use mathlib.Core.List.{List, [], ◌∷◌, ◌++◌, map, append-nil}
use mathlib.Core.Path.{◌≡◌, refl, ◌∙◌}
use native.Mathlib.Omega.{arith}
use borrow.Author.Tests.{ne_eqb}
use lib.Dec.{eqb, eqb-suc-suc}
use native.Mathlib.Numerals.{add-one}
use lib.ListN.{take, drop, replicate}
use Rattle.ground.specs.Choice.{when◌then◌else◌}
use Rattle.ground.specs.Lists.{any}
use Rattle.identifier.specs.Identifier.{after, taken}
use Rattle.call.specs.declared.Call.{Call}
use Rattle.call.specs.Record.{free_call, requested}
use Rattle.station.specs.Table.{requests_of}
use Rattle.draw.specs.Column.{over, held_by, first_free_in, frees}

pub same_number : (n m : ℕ) → eqb (n + 1) (m + 1) ≡ eqb n m
same_number n m = rw (add-one n, add-one m) (eqb-suc-suc n m)

pub held_taken : (l : List Call) (n : ℕ) → any (eqb (n + 1)) (map held_by l) ≡ taken (requests_of l) n
unfolding any requests_of
held_taken [] n = refl
held_taken (c ∷ cs) n = go (requested c) (held_taken cs n)
  where
    go : (b : Bool) → any (eqb (n + 1)) (map held_by cs) ≡ taken (requests_of cs) n
        → eqb (n + 1) (when b then c.identifier + 1 else 0) || any (eqb (n + 1)) (map held_by cs) ≡ taken (when b then c.identifier ∷ requests_of cs else requests_of cs) n
    go true h = rw (same_number n c.identifier, h)
    go false h = rw (ne_eqb (n + 1) 0 (λ e. omega arith), h)

-- one candidate more
pub free_step : (k j : ℕ) (held : List ℕ) (n : ℕ) → k ≡ suc j → any (eqb (n + 1)) held ≡ true → first_free_in k held n ≡ first_free_in j held (after n)
unfolding first_free_in
free_step k j held n e h = rw (e, h)

pub free_found : (k j : ℕ) (held : List ℕ) (n : ℕ) → k ≡ suc j → any (eqb (n + 1)) held ≡ false → first_free_in k held n ≡ n
unfolding first_free_in
free_found k j held n e h = rw (e, h)

pub free_none : (held : List ℕ) (n : ℕ) → first_free_in 0 held n ≡ n
unfolding first_free_in
free_none held n = refl

requests_append : (a b : List Call) → requests_of (a ++ b) ≡ requests_of a ++ requests_of b
unfolding requests_of
requests_append [] b = refl
requests_append (c ∷ cs) b = go (requested c) (requests_append cs b)
  where
    go : (t : Bool) → requests_of (cs ++ b) ≡ requests_of cs ++ requests_of b
        → (when t then c.identifier ∷ requests_of (cs ++ b) else requests_of (cs ++ b)) ≡ (when t then c.identifier ∷ requests_of cs else requests_of cs) ++ requests_of b
    go true h = rw h
    go false h = h

no_requests : (k n : ℕ) → requests_of (drop k (replicate n free_call)) ≡ []
unfolding requests_of
no_requests zero zero = refl
no_requests zero (suc n) = no_requests zero n
no_requests (suc k) zero = refl
no_requests (suc k) (suc n) = no_requests k n

-- the places past the table's end hold no request
pub requests_over : (n : ℕ) (l : List Call) → requests_of (over n l frees) ≡ requests_of (take n l)
requests_over n l = requests_append (take n l) (drop n frees) ∙ rw (no_requests n 64) (append-nil (requests_of (take n l)))
