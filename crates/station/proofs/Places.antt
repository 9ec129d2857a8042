-- An event changes at most the record at its place. Assumes nothing.
use Prim.Native.Nat.{ℕ}
use mathlib.Core.Path.{◌≡◌, refl}
use mathlib.Core.List.{List}
use lib.ListN.{length, length-set}
use lib.Seq.{get_or-set_other}
use Rattle.event.specs.declared.Event.{Event}
use Rattle.call.specs.declared.Call.{Call}
use Rattle.call.specs.Record.{free_call}
use Rattle.station.specs.declared.Station.{Station}
use Rattle.station.specs.Table.{at, place}
use Rattle.station.specs.Step.{Outcome, effect_at}
use Rattle.station.specs.Demand2.{OthersStay, LengthStays}
use Rattle.station.proofs.Stepped.{Stepped, refuses, settles, moves, stepped}

others : {s : Station} {calls : List Call} {e : Event} {o : Outcome} (j : ℕ) → Stepped s calls e o → (j ≡ place calls e → ⊥)
    → at o.calls j ≡ at calls j
others j (refuses n q) d = refl
others {s} {calls} {e} j (settles p r l) d = get_or-set_other calls (place calls e) j (effect_at s calls e (place calls e)).call free_call d
others j (moves p l) d = refl

pub others_stay : OthersStay
others_stay s calls e j d = others j (stepped s calls e) d

same_length : {s : Station} {calls : List Call} {e : Event} {o : Outcome} → Stepped s calls e o → length o.calls ≡ length calls
same_length (refuses n q) = refl
same_length {s} {calls} {e} (settles p r l) = length-set calls (place calls e) (effect_at s calls e (place calls e)).call
same_length (moves p l) = refl

pub length_stays : LengthStays
length_stays s calls e = same_length (stepped s calls e)
