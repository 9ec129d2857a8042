-- What a run keeps beside its table tells enough of it for a turn: the place from the mask and the column of due times, the identifier from the column of those held. Assumes nothing.
use Prim.Native.Nat.{ℕ, ◌≤◌, ◌<◌}
use mathlib.Core.Bool.{Bool, true, false}
use mathlib.Core.List.{List}
use mathlib.Core.Path.{◌≡◌, refl, sym, ◌∙◌}
use native.Mathlib.Omega.{arith}
use borrow.Author.Tests.{ltb-true, ltb-false}
use lib.Count.{count_trailing_zeros}
use lib.Dec.{ltb}
use lib.ListN.{length, get_or, take}
use Rattle.ground.specs.Choice.{when◌then◌else◌}
use Rattle.ground.specs.Lists.{first}
use Rattle.ground.proofs.Bools.{by_cases}
use Rattle.event.specs.declared.Event.{Event}
use Rattle.event.specs.Kinds.{opens, clock}
use Rattle.call.specs.declared.Call.{Call}
use Rattle.call.specs.Record.{free_call, is_free}
use Rattle.call.specs.Incoming.{due}
use Rattle.station.specs.declared.Station.{Station}
use Rattle.station.specs.Table.{place}
use Rattle.notes.specs.declared.Notes.{Notes}
use Rattle.notes.proofs.Kept.{Kept}
use Rattle.draw.specs.Column.{over, frees, identifier_in}
use Rattle.expiry.specs.Expiry.{under, never}
use Rattle.sight.specs.declared.Seen.{Seen}
use Rattle.sight.specs.Sight.{place_of}
use Rattle.turn.specs.Turn.{Sees}
use Rattle.board.proofs.Boards.{table_long}
use Rattle.board.proofs.Found.{table_at, found_free, none_free, found_due, none_due, found_identifier}

-- a place that is another's where it is within a bound, and past the bound where the other is
abbrev Agrees : ℕ → ℕ → ℕ → Type 0
Agrees n i x = (x < n → i ≡ x) × (n ≤ x → n ≤ i)

agrees : (n i x : ℕ) → (i < n → i ≡ x) → (n ≤ i → n ≤ x) → Agrees n i x
agrees n i x f g =
    by_cases (ltb i n)
    (λ t. let e = f (ltb-true i n t) in (λ h. e, λ h. omega (arith, e, h)))
    (λ t. let l = ltb-false i n t in let m = g l in (λ h. absurd (omega (arith, h, m)), λ h. l))

module _ (n : ℕ) (l : List Call) (h : n ≤ 64) (long : length l ≡ 64) (d : Notes) (w : Kept (over n l frees) d) (e : Event) (t : e.time ≤ never) where
  abbrev lowest : ℕ
  lowest = count_trailing_zeros 64 d.free

  abbrev past : ℕ
  past = first (under e.time) d.dues

  size_is : length (take n l) ≡ n
  size_is = table_long n l h long

  free_agrees : Agrees n lowest (first is_free (take n l))
  free_agrees = agrees n lowest (first is_free (take n l)) (λ k. found_free n l h long d w lowest refl k) (λ k. omega (arith, none_free n l h long d w lowest refl k, size_is))

  due_agrees : Agrees n past (first (due e.time) (take n l))
  due_agrees =
      agrees n past (first (due e.time) (take n l)) (λ k. found_due n l h long d w e.time past t refl k)
      (λ k. omega (arith, none_due n l h long d w e.time past t refl k, size_is))

  by_kind : (o c : Bool) (x y z u v : ℕ) → Agrees n x u → Agrees n y v → Agrees n (when o then x else when c then y else z) (when o then u else when c then v else z)
  by_kind true c x y z u v a b = a
  by_kind false true x y z u v a b = b
  by_kind false false x y z u v a b = (λ k. refl, λ k. k)

  place_agrees : Agrees n (place_of e lowest past) (place (take n l) e)
  place_agrees = by_kind (opens e) (clock e) lowest past e.call (first is_free (take n l)) (first (due e.time) (take n l)) free_agrees due_agrees

  pub sees_notes : (s : Station) (v : Seen) → v.len ≡ n → v.place ≡ place_of e lowest past → (v.place < n → v.call ≡ get_or l v.place free_call)
      → v.identifier ≡ identifier_in e d.held s.remote.pending s.next → Sees s (take n l) e v
  sees_notes s v q p c i = record {
    size = q ∙ sym size_is;
    near = λ k. p ∙ place_agrees.0 (omega (arith, k, size_is));
    far = λ k. let m = place_agrees.1 (omega (arith, k, size_is)) in omega (arith, m, p, size_is);
    there = λ k. let m : v.place < n = omega (arith, k, size_is) in c m ∙ sym (table_at n l h long v.place m);
    drawn = λ f. i ∙ rw f (found_identifier n l h long d w s.remote.pending s.next);
  }
