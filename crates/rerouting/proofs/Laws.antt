-- Where an invoke goes on in Invoked, fewer than 15 wait. Assumes nothing.
use mathlib.Core.Bool.{Bool, false, not, ◌&&◌}
use mathlib.Core.Path.{◌≡◌, sym, ◌∙◌}
use lib.Dec.{T}
use Rattle.ground.proofs.Bools.{and_l, and_r, nor_l, nor_r, eq→eqb, from_false}
use Rattle.event.specs.declared.Event.{Event}
use Rattle.waits.specs.Waits.{room}
use Rattle.call.specs.declared.Call.{Call}
use Rattle.call.specs.Record.{invoked}
use Rattle.call.specs.Outgoing.{goes_on, turns_down}
use Rattle.call.proofs.Denials.{denied}

pub in_room : (c : Call) (e : Event) (t : Bool) → t ≡ turns_down c e → t ≡ false → c.cdr ≡ 1 → T (room c.waiting)
in_room c e t q n i =
    let d : T (not (turns_down c e)) = from_false (turns_down c e) (sym q ∙ n) in
    let o : T (not (invoked c && not (goes_on c e))) = search (nor_l, nor_r) in
    let g : T (goes_on c e) = denied (invoked c) (goes_on c e) o (eq→eqb c.cdr 1 i) in
    search (and_l, and_r)
