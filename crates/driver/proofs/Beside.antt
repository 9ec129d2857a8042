-- What a driver keeps, as what is kept beside a table: at the start, with the bound found anew, after a store. Assumes nothing.
use Prim.Native.Nat.{ℕ, ◌+◌, ◌-◌, ◌≤◌, ◌<◌, min}
use mathlib.Core.Path.{◌≡◌, ap, ◌∙◌}
use native.Mathlib.Omega.{arith}
use lib.ListN.{length, get_or, set, length-map}
use Rattle.call.specs.declared.Call.{Call}
use Rattle.call.specs.Record.{free_call, is_free}
use Rattle.call.proofs.Read.{unread, read_any}
use Rattle.station.specs.declared.Station.{Station}
use Rattle.bits.specs.Mask.{weigh}
use Rattle.expiry.specs.Expiry.{refreshed_of, quiet_until}
use Rattle.expiry.proofs.Bound.{refreshed_bound}
use Rattle.draw.specs.Column.{over, frees, held_by}
use Rattle.draw.proofs.Column.{over_length}
use Rattle.notes.specs.declared.Notes.{Notes}
use Rattle.notes.specs.Notes.{notes_of}
use Rattle.notes.proofs.Kept as noted
use Rattle.board.specs.declared.Board.{Board}
use Rattle.board.proofs.Beside.{Beside, beside_next, may_flip}
use Rattle.driver.specs.Kept.{Kept}

module _ (b : Board) (d : Notes) where
  of_notes : b.len ≤ 64 → noted.Kept (over b.len b.calls frees) d → Kept b d
  unfolding notes_of
  of_notes h w = record { short = h; same = λ i. record { free = w.mask i; soon = d.soon; dues = w.column i; held = w.idents i }; bound = w.bound }

  to_notes : Kept b d → noted.Kept (over b.len b.calls frees) d
  unfolding notes_of
  to_notes w = record { mask = ap (λ (x : Notes). x.free) w.same; column = ap (λ (x : Notes). x.dues) w.same; bound = w.bound; idents = ap (λ (x : Notes). x.held) w.same }

  pub kept_start : b.len ≤ 64 → d ≡ notes_of (over b.len b.calls frees) → Kept b d
  kept_start h q = of_notes h (noted.kept_summed (over b.len b.calls frees) d q)

  -- another station, and the bound found anew
  pub kept_far : Kept b d → (s : Station) (time soon' : ℕ) → soon' ≡ refreshed_of d.soon d.dues time → Kept (record b { station = s }) (record d { soon = soon' })
  kept_far w s time soon' h = record {
    short = w.short;
    same = λ i. record { free = (w.same i).free; soon = soon'; dues = (w.same i).dues; held = (w.same i).held };
    bound = rw h (refreshed_bound d.soon d.dues time w.bound);
  }

module _ (b : Board) (d : Notes) (long : length b.calls ≡ 64) (w : Kept b d) where
  pub beside : Beside b.len b.calls d
  beside = record {
    long = long;
    wide = ap length (to_notes b d w).column ∙ (length-map (over b.len b.calls frees) quiet_until ∙ over_length b.calls frees b.len long);
    broad = ap length (to_notes b d w).idents ∙ (length-map (over b.len b.calls frees) held_by ∙ over_length b.calls frees b.len long);
    kept = to_notes b d w;
  }

  -- what is read of the array is a record of the table
  same_read : (i : ℕ) → i < b.len → get_or b.calls i unread ≡ get_or b.calls i free_call
  same_read i h = read_any b.calls i unread free_call (omega (arith, long, w.short))

  -- what the change of the mask asks
  pub kept_flips : (i : ℕ) (x : Call) → i < b.len
      → (i < 64) × (weigh (is_free (get_or b.calls i unread)) i ≤ d.free) × (d.free + weigh (is_free x) i < 18446744073709551616 + weigh (is_free (get_or b.calls i unread)) i)
  kept_flips i x h = rw (same_read i h) (may_flip b.len b.calls d.free d.soon d.dues d.held w.short beside i x h)

  -- after a store
  pub kept_done : (s : Station) (i free' soon' due id : ℕ) (x : Call) → i < b.len → free' ≡ d.free + weigh (is_free x) i - weigh (is_free (get_or b.calls i unread)) i
      → due ≡ quiet_until x → soon' ≡ min d.soon due → id ≡ held_by x
      → Kept (record b { station = s; calls = set b.calls i x }) (record { free = free'; soon = soon'; dues = set d.dues i due; held = set d.held i id })
  kept_done s i free' soon' due id x h f q p v =
      of_notes (record b { station = s; calls = set b.calls i x }) _ w.short
      (beside_next b.len b.calls d.free d.soon d.dues d.held w.short beside i free' soon' due id x h (rw (same_read i h) at f) q p v).kept
