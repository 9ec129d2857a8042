-- The whole printout of small inputs, computed. Assumes nothing.
use mathlib.Core.List.{[], ◌∷◌, ◌++◌, flatten}
use mathlib.Core.Path.{◌≡◌, refl}
use lib.ListN.{replicate}
use Rattle.ground.specs.Lists.{first, all, any}
use Rattle.wire.specs.Record.{event_at, events_from}
use Rattle.event.specs.WellMade.{call_made, well_made}
use Rattle.identifier.specs.Identifier.{distinct, first_free}
use Rattle.waits.specs.Waits.{room, last_after, after_all, take_all}
use Rattle.waits.specs.Soundness.{waits_hold, waits_unused}
use Rattle.call.specs.Soundness.{sound_outgoing, sound_incoming, sound_call}
use Rattle.call.specs.State.{basic_forbids, state_forbids}
use Rattle.call.specs.Incoming.{act_incoming}
use Rattle.call.specs.Outgoing.{act_outgoing}
use Rattle.call.specs.Act.{act}
use Rattle.timed.specs.Timed.{identifiers_of}
use Rattle.remote.specs.Held.{remote_holds}
use Rattle.remote.specs.Rules as far
use Rattle.remote.specs.Rules.{lapse, remote_refusal}
use Rattle.station.specs.Table.{requests_of, sound}
use Rattle.station.specs.Refusals.{refusal_on_sound, refusal}
use Rattle.station.specs.Step.{done, by_number, step}
use Rattle.digits.specs.Digits.{digits, characters_of}
use Rattle.printout.specs.Line.{line, printed}
use Rattle.printout.specs.Panel.{panel_text}

-- nothing printed for no input; an open outgoing call, then a record that is cut behind its first byte
pub panel_small : panel_text [] ++ panel_text (1 ∷ replicate 10 0 ++ (101 ∷ replicate 11 0) ++ (1 ∷ 15 ∷ []))
    ≡ characters_of "0 0 0 - - - - -\ncut 1\n"
unfolding first all any event_at events_from well_made distinct first_free room last_after after_all take_all waits_hold waits_unused sound_outgoing sound_incoming sound_call basic_forbids state_forbids act_incoming act_outgoing act requests_of sound refusal_on_sound refusal done by_number step digits line printed flatten panel_text characters_of call_made remote_holds identifiers_of far.step lapse remote_refusal
panel_small = refl
