-- What an event that is taken does to its record, by the groups of kinds.
use Rattle.std.specs.Prelude.{ℕ, eqb}
use Rattle.ground.specs.Choice.{when◌then◌else◌}
use Rattle.event.specs.declared.Event.{Event}
use Rattle.event.specs.Kinds.{OpenOutgoing, opens, of_incoming, of_outgoing, clock}
use Rattle.call.specs.declared.Call.{Call}
use Rattle.call.specs.declared.Effect.{Effect}
use Rattle.call.specs.Record.{invoked, free_call}
use Rattle.call.specs.Messages.{release_on, one, two, sending, silent}
use Rattle.call.specs.Incoming.{opened_incoming, expired, act_incoming}
use Rattle.call.specs.Outgoing.{opened_outgoing, act_outgoing}

-- "1" to "3": "An open .. sends nothing: the host has sent the SETUP."
abbrev pub opened : Event → Effect
opened e = when eqb e.kind OpenOutgoing then silent (opened_outgoing e) else silent (opened_incoming e)

-- "11 sends RELEASE COMPLETE, .. the record is free and its request ended"; outgoing "11 frees it too: RELEASE COMPLETE on
-- leg 1, then on leg 2 in Invoked."
abbrev pub ended : Call → Effect
ended c =
    when invoked c then sending free_call (two (release_on 1) (release_on 2)) else
    sending free_call (one (release_on 1))

-- the record, the event, and the identifier that a request would take
unfoldable pub act : Call → Event → ℕ → Effect
act c e identifier =
    when opens e then opened e else
    when of_incoming e then act_incoming c e identifier else
    when of_outgoing e then act_outgoing c e else
    when clock e then expired c else
    ended c
