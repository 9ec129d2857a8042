-- A sound table by its parts. Assumes nothing.
use Prim.Native.Nat.{ℕ, ◌<◌}
use mathlib.Core.List.{List}
use lib.Dec.{T, leb}
use lib.ListN.{length}
use Rattle.ground.specs.Lists.{all}
use Rattle.ground.proofs.Bools.{and_l, and_r, and_i, is_true, from_true}
use Rattle.ground.proofs.Walks.{all_get}
use Rattle.identifier.specs.Identifier.{distinct}
use Rattle.call.specs.declared.Call.{Call}
use Rattle.call.specs.Record.{free_call}
use Rattle.call.specs.Soundness.{sound_call}
use Rattle.remote.specs.Held.{remote_holds}
use Rattle.station.specs.declared.Station.{Station}
use Rattle.station.specs.Station.{limit_ok, next_ok}
use Rattle.station.specs.Table.{at, open_identifiers, sound}

pub record Whole (s : Station) (calls : List Call) : Type 0 where
  pub some : T (leb 1 (length calls))
  pub few : T (leb (length calls) 64)
  pub limit : T (limit_ok s.limit)
  pub next : T (next_ok s.next)
  pub far : T (remote_holds s.last s.remote)
  pub records : T (all (sound_call s.last) calls)
  pub apart : T (distinct (open_identifiers s calls))

pub whole : (s : Station) (calls : List Call) → T (sound s calls) → Whole s calls
unfolding sound
whole s calls h = search (and_l, and_r) depth 9

pub sound_of : (s : Station) (calls : List Call) → Whole s calls → T (sound s calls)
unfolding sound
sound_of s calls w = search and_i depth 9

-- each record of it is sound
pub record_sound : (s : Station) (calls : List Call) → T (sound s calls) → (i : ℕ) → i < length calls → T (sound_call s.last (at calls i))
record_sound s calls h i l =
    let p = sound_call s.last in
    from_true (p (at calls i)) (all_get p calls i free_call (is_true (all p calls) (whole s calls h).records) l)
