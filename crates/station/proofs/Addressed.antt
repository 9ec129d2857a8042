-- The record at the place of an event that is done: its direction is the event's, and the state rules take it. Assumes nothing.
use mathlib.Core.Path.{◌≡◌, refl}
use mathlib.Core.Bool.{Bool, true, false, not, ◌&&◌, ◌||◌}
use mathlib.Core.List.{List}
use lib.Dec.{T, leb}
use lib.ListN.{length}
use Rattle.ground.proofs.Bools.{nor_r, from_true}
use Rattle.event.specs.declared.Event.{Event}
use Rattle.event.specs.Kinds.{opens, of_incoming, of_outgoing, clock, ends}
use Rattle.call.specs.declared.Call.{Call}
use Rattle.call.specs.State.{wrong_call, addressed, state_forbids}
use Rattle.call.proofs.Requests.{open_unnamed, clock_unnamed}
use Rattle.station.specs.declared.Station.{Station}
use Rattle.station.specs.Table.{at, place}
use Rattle.station.proofs.Numbers.{Passed}

pub addressed_there : (s : Station) (calls : List Call) (e : Event) → Passed s calls e
    → T (addressed (at calls (place calls e)) e) × T (not (state_forbids (at calls (place calls e)) e))
addressed_there s calls e p = go (opens e) refl (clock e) refl
  where
    go : (a : Bool) → opens e ≡ a → (b : Bool) → clock e ≡ b
        → T (addressed (at calls (place calls e)) e) × T (not (state_forbids (at calls (place calls e)) e))
    go true o b k = open_unnamed (at calls (place calls e)) e (from_true (opens e) o)
    go false o true k = clock_unnamed (at calls (place calls e)) e (from_true (clock e) k)
    go false o false k =
        let right = nor_r ((of_incoming e || of_outgoing e || ends e) && leb (length calls) e.call) (wrong_call (at calls e.call) e) p.named in
        rw (o, k) (right, p.taken)
