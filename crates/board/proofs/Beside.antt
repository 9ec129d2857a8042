-- What a loop keeps beside its table: at the start, after a store, and what it gives a step. Assumes nothing.
use Prim.Native.Nat.{ℕ, zero, suc, ◌+◌, ◌-◌, ◌≤◌, ◌<◌, min}
use mathlib.Core.List.{List, [], ◌∷◌, ◌++◌}
use mathlib.Core.Path.{◌≡◌, refl, ap, ◌∙◌}
use native.Mathlib.Nat.{le_of_suc-le-suc, not-suc-le-zero}
use native.Mathlib.Omega.{arith}
use lib.ListN.{length, get_or, set, take, drop, length-set, length-map}
use Rattle.call.specs.declared.Call.{Call}
use Rattle.call.specs.Record.{free_call, is_free}
use Rattle.notes.specs.declared.Notes.{Notes}
use Rattle.bits.specs.Mask.{weigh}
use Rattle.notes.specs.Notes.{notes_of}
use Rattle.expiry.specs.Expiry.{refreshed_of, quiet_until}
use Rattle.draw.specs.Column.{over, frees, held_by}
use Rattle.draw.proofs.Column.{over_length}
use Rattle.notes.proofs.Kept.{Kept, kept_next, kept_may, kept_summed}
use Rattle.expiry.proofs.Bound.{refreshed_bound}
use Rattle.station.specs.declared.Station.{Station}
use Rattle.board.specs.declared.Board.{Board}

abbrev pub notes : ℕ → ℕ → List ℕ → List ℕ → Notes
notes free soon dues held = record { free = free; soon = soon; dues = dues; held = held }

-- the board as a loop has it: the length stays
abbrev pub board_now : Board → Station → List Call → Board
board_now b s calls = record { station = s; len = b.len; calls = calls }

-- the columns are as long as the array, and say what the records of its table say
pub record Beside (len : ℕ) (calls : List Call) (d : Notes) : Type 0 where
  pub long : length calls ≡ 64
  pub wide : length d.dues ≡ 64
  pub broad : length d.held ≡ 64
  pub kept : Kept (over len calls frees) d

-- a store, and a reading, among the first n
over_set : {A : Type 0} (n : ℕ) (new old : List A) (i : ℕ) (x : A) → i < n → i < length new → set (take n new ++ old) i x ≡ take n (set new i x) ++ old
over_set zero new old i x h k = absurd (not-suc-le-zero h)
over_set (suc n) [] old i x h k = absurd (not-suc-le-zero k)
over_set (suc n) (y ∷ ys) old zero x h k = refl
over_set (suc n) (y ∷ ys) old (suc i) x h k = ap (λ r. y ∷ r) (over_set n ys old i x (le_of_suc-le-suc h) (le_of_suc-le-suc k))

over_get : {A : Type 0} (n : ℕ) (new old : List A) (i : ℕ) (d : A) → i < n → i < length new → get_or (take n new ++ old) i d ≡ get_or new i d
over_get zero new old i d h k = absurd (not-suc-le-zero h)
over_get (suc n) [] old i d h k = absurd (not-suc-le-zero k)
over_get (suc n) (y ∷ ys) old zero d h k = refl
over_get (suc n) (y ∷ ys) old (suc i) d h k = over_get n ys old i d (le_of_suc-le-suc h) (le_of_suc-le-suc k)

-- as many as there are records
pub beside_start : (n : ℕ) (l : List Call) (d : Notes) → d ≡ notes_of (over n l frees) → length l ≡ 64 → Beside n l d
beside_start n l d q e = let w = kept_summed (over n l frees) d q in record {
  long = e;
  wide = ap length w.column ∙ (length-map (over n l frees) quiet_until ∙ over_length l frees n e);
  broad = ap length w.idents ∙ (length-map (over n l frees) held_by ∙ over_length l frees n e);
  kept = w;
}

-- the bound found anew
pub beside_soon : (n : ℕ) (calls : List Call) (free soon : ℕ) (dues held : List ℕ) → Beside n calls (notes free soon dues held)
    → (soon' time : ℕ) → soon' ≡ refreshed_of soon dues time → Beside n calls (notes free soon' dues held)
beside_soon n calls free soon dues held w soon' time h = record {
  long = w.long;
  wide = w.wide;
  broad = w.broad;
  kept = record { mask = w.kept.mask; column = w.kept.column; bound = rw h (refreshed_bound soon dues time w.kept.bound); idents = w.kept.idents };
}

module _ (n : ℕ) (calls : List Call) (free soon : ℕ) (dues held : List ℕ) (short : n ≤ 64) (w : Beside n calls (notes free soon dues held)) where
  -- what the change of the mask asks
  pub may_flip : (i : ℕ) (x : Call) → i < n
      → (i < 64) × (weigh (is_free (get_or calls i free_call)) i ≤ free) × (free + weigh (is_free x) i < 18446744073709551616 + weigh (is_free (get_or calls i free_call)) i)
  may_flip i x h =
      rw (over_get n calls (drop n frees) i free_call h (omega (arith, w.long))) at
      (kept_may (over n calls frees) free soon dues held i x free_call w.kept (omega arith) (over_length calls frees n w.long))

  -- after a store
  pub beside_next : (i free' soon' due id : ℕ) (x : Call) → i < n → free' ≡ free + weigh (is_free x) i - weigh (is_free (get_or calls i free_call)) i
      → due ≡ quiet_until x → soon' ≡ min soon due → id ≡ held_by x → Beside n (set calls i x) (notes free' soon' (set dues i due) (set held i id))
  beside_next i free' soon' due id x l f d p v =
      let inside : i < length calls = omega (arith, w.long) in
      let at = over_get n calls (drop n frees) i free_call l inside in
      let full = over_length calls frees n w.long in record {
        long = simp length-set w.long;
        wide = simp length-set w.wide;
        broad = simp length-set w.broad;
        kept = rw (d, v, ← over_set n calls (drop n frees) i x l inside)
            (kept_next (over n calls frees) free soon dues held i x free_call w.kept free' soon' (omega (arith, full)) (rw at f) (omega (arith, p)) (omega (arith, p, d)));
      }
