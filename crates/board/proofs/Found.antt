-- What is kept beside the array finds what the definition finds in the table. Assumes nothing.
use Prim.Native.Nat.{ℕ, ◌≤◌, ◌<◌}
use mathlib.Core.Bool.{Bool}
use mathlib.Core.List.{List, ◌++◌}
use mathlib.Core.Path.{◌≡◌, sym, ◌∙◌}
use native.Mathlib.Omega.{arith}
use lib.Count.{count_trailing_zeros}
use lib.ListN.{length, get_or, take, drop}
use lib.Seq.{get_or-take}
use Rattle.ground.specs.Lists.{first}
use Rattle.identifier.specs.Identifier.{drawn}
use Rattle.call.specs.declared.Call.{Call}
use Rattle.call.specs.Record.{is_free, free_call}
use Rattle.call.specs.Incoming.{due}
use Rattle.timed.specs.Timed.{identifiers_of}
use Rattle.remote.specs.declared.Pendings.{Pendings}
use Rattle.remote.specs.Held.{timers_of}
use Rattle.station.specs.Table.{requests_of, at}
use Rattle.notes.specs.declared.Notes.{Notes}
use Rattle.notes.proofs.Kept.{Kept}
use Rattle.draw.specs.Column.{over, frees, joined_of, first_free_in}
use Rattle.expiry.specs.Expiry.{under, never}
use Rattle.draw.proofs.Column.{over_length}
use Rattle.board.proofs.Boards.{table_long}
use Rattle.draw.proofs.Four.{joined_free}
use Rattle.draw.proofs.Held.{requests_over}
use Rattle.expiry.proofs.Due.{due_first}
use Rattle.notes.proofs.Free.{free_first, first_beginning, first_past_end}

module _ (n : ℕ) (l : List Call) (h : n ≤ 64) (e : length l ≡ 64) where
  -- a first place in the array is one in the table, or there is none
  table_first : (p : Call → Bool) (i : ℕ) → i ≡ first p (over n l frees) → i < n → i ≡ first p (take n l)
  table_first p i q k = q ∙ sym (first_beginning p (take n l) (drop n frees) (omega (arith, q, table_long n l h e)))

  table_none : (p : Call → Bool) (i : ℕ) → i ≡ first p (over n l frees) → n ≤ i → length (take n l) ≤ first p (take n l)
  table_none p i q k = omega (arith, first_past_end p (take n l) (drop n frees) (omega (arith, q, table_long n l h e)))

  pub table_at : (i : ℕ) → i < n → at (take n l) i ≡ get_or l i free_call
  table_at i k = get_or-take n l i free_call k

  module _ (d : Notes) (w : Kept (over n l frees) d) where
    lowest_free : (i : ℕ) → i ≡ count_trailing_zeros 64 d.free → i ≡ first is_free (over n l frees)
    lowest_free i q = q ∙ rw w.mask (free_first (over n l frees) (over_length l frees n e))

    pub found_free : (i : ℕ) → i ≡ count_trailing_zeros 64 d.free → i < n → i ≡ first is_free (take n l)
    found_free i q k = table_first is_free i (lowest_free i q) k

    pub none_free : (i : ℕ) → i ≡ count_trailing_zeros 64 d.free → n ≤ i → length (take n l) ≤ first is_free (take n l)
    none_free i q k = table_none is_free i (lowest_free i q) k

    lowest_due : (time i : ℕ) → time ≤ never → i ≡ first (under time) d.dues → i ≡ first (due time) (over n l frees)
    lowest_due time i t q = q ∙ rw w.column (due_first time t (over n l frees))

    pub found_due : (time i : ℕ) → time ≤ never → i ≡ first (under time) d.dues → i < n → i ≡ first (due time) (take n l)
    found_due time i t q k = table_first (due time) i (lowest_due time i t q) k

    pub none_due : (time i : ℕ) → time ≤ never → i ≡ first (under time) d.dues → n ≤ i → length (take n l) ≤ first (due time) (take n l)
    none_due time i t q k = table_none (due time) i (lowest_due time i t q) k

    pub found_identifier : (p : Pendings) (next : ℕ) → first_free_in 69 (joined_of d.held p) next ≡ drawn (requests_of (take n l) ++ identifiers_of (timers_of p)) next
    found_identifier p next = rw w.idents (joined_free 69 (over n l frees) p next ∙ rw (requests_over n l))
