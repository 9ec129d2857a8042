-- What is kept beside a table, and what it is after one store. Assumes nothing.
use Prim.Native.Nat.{ℕ, ◌+◌, ◌-◌, ◌≤◌, ◌<◌}
use mathlib.Core.Bool.{true}
use mathlib.Core.List.{List, map}
use mathlib.Core.Path.{◌≡◌, refl, sym, ◌∙◌}
use native.Mathlib.Omega.{arith}
use borrow.Author.Tests.{le-leb}
use lib.ListN.{length, get_or, set, length-set, replicate}
use Rattle.ground.specs.Lists.{all}
use Rattle.ground.proofs.Walks.{all_set}
use Rattle.call.specs.declared.Call.{Call}
use Rattle.call.specs.Record.{is_free}
use Rattle.bits.specs.Mask.{mask_of, weigh}
use Rattle.bits.proofs.Mask.{mask_set, mask_has, mask_lt}
use Rattle.expiry.specs.Expiry.{quiet_until, at_least, never, soonest_of}
use Rattle.expiry.proofs.Bound.{all_lower, soonest_bound}
use Rattle.draw.specs.Column.{held_by, frees}
use Rattle.draw.proofs.Column.{map_set}
use Rattle.notes.specs.declared.Notes.{Notes}
use Rattle.notes.specs.Notes.{notes_of}

-- what is kept from event to event: as summed up, but that the bound may lie below the least
pub record Kept (calls : List Call) (d : Notes) : Type 0 where
  pub mask : d.free ≡ mask_of is_free calls
  pub column : d.dues ≡ map quiet_until calls
  pub bound : all (at_least d.soon) d.dues ≡ true
  pub idents : d.held ≡ map held_by calls

abbrev pub notes : ℕ → ℕ → List ℕ → List ℕ → Notes
notes free soon dues held = record { free = free; soon = soon; dues = dues; held = held }

module _ (l : List Call) (free soon : ℕ) (dues held : List ℕ) (i : ℕ) (x z : Call) (w : Kept l (notes free soon dues held)) where
  pub kept_next : (free' soon' : ℕ) → i < length l → free' ≡ free + weigh (is_free x) i - weigh (is_free (get_or l i z)) i → soon' ≤ soon
      → soon' ≤ quiet_until x → Kept (set l i x) (notes free' soon' (set dues i (quiet_until x)) (set held i (held_by x)))
  kept_next free' soon' h e a b = record {
    mask = omega (arith, e, w.mask, mask_set is_free l i x z h);
    column = rw w.column (sym (map_set quiet_until l i x));
    bound = all_set (at_least soon') dues i (quiet_until x) (all_lower soon' soon dues a w.bound) (le-leb soon' (quiet_until x) b);
    idents = rw w.idents (sym (map_set held_by l i x));
  }

  -- what the change of the mask asks
  pub kept_may : i < 64 → length l ≡ 64
      → (i < 64) × (weigh (is_free (get_or l i z)) i ≤ free) × (free + weigh (is_free x) i < 18446744073709551616 + weigh (is_free (get_or l i z)) i)
  kept_may h e =
      let k : i < length l = omega arith in
      let g : length (set l i x) ≡ 64 = length-set l i x ∙ e in
      let b : mask_of is_free (set l i x) < 18446744073709551616 = rw g at (mask_lt is_free (set l i x)) in
      (h, omega (arith, w.mask, mask_has is_free l i z k), omega (arith, b, w.mask, mask_set is_free l i x z k))

-- of a table of free records
pub kept_none : Kept frees (notes never never (replicate 64 never) (replicate 64 0))
unfolding mask_of all
kept_none = record { mask = refl; column = refl; bound = refl; idents = refl }

-- what is summed up may be kept
pub kept_summed : (calls : List Call) (d : Notes) → d ≡ notes_of calls → Kept calls d
unfolding notes_of
kept_summed calls d e = rw e (record { mask = refl; column = refl; bound = soonest_bound (map quiet_until calls); idents = refl })

-- what is kept, with the least for its bound, is what is summed up
pub summed_kept : (calls : List Call) (free soon : ℕ) (dues held : List ℕ) → Kept calls (notes free soon dues held) → soon ≡ soonest_of dues
    → notes free soon dues held ≡ notes_of calls
unfolding notes_of
summed_kept calls free soon dues held w e = rw (e, w.mask, w.column, w.idents)
