-- The cases marked P, computed by the definition. Assumes nothing.
use mathlib.Core.Path.{◌≡◌, refl}
use Rattle.ground.specs.Lists.{first, all, any}
use Rattle.event.specs.WellMade.{call_made, well_made}
use Rattle.identifier.specs.Identifier.{distinct, first_free}
use Rattle.waits.specs.Waits.{room, last_after, after_all, take_all}
use Rattle.waits.specs.Soundness.{waits_hold, waits_unused}
use Rattle.call.specs.Soundness.{sound_outgoing, sound_incoming, sound_call}
use Rattle.call.specs.State.{basic_forbids, state_forbids}
use Rattle.call.specs.Incoming.{act_incoming}
use Rattle.call.specs.Outgoing.{act_outgoing}
use Rattle.call.specs.Act.{act}
use Rattle.timed.specs.Timed.{identifiers_of}
use Rattle.remote.specs.Held.{remote_holds}
use Rattle.remote.specs.Rules as far
use Rattle.remote.specs.Rules.{lapse, remote_refusal}
use Rattle.station.specs.Table.{requests_of, sound}
use Rattle.station.specs.Refusals.{refusal_on_sound, refusal}
use Rattle.station.specs.Step.{done, by_number, step}
use Rattle.digits.specs.Digits.{digits, characters_of}
use Rattle.printout.specs.Line.{line, printed}
use Rattle.printout.specs.Cases.{cases_p, expected_p}

pub cases_p_lem : cases_p ≡ expected_p
unfolding first all any well_made distinct first_free room last_after after_all take_all waits_hold waits_unused sound_outgoing sound_incoming sound_call basic_forbids state_forbids act_incoming act_outgoing act requests_of sound refusal_on_sound refusal done by_number step digits line printed characters_of call_made remote_holds identifiers_of far.step lapse remote_refusal
cases_p_lem = refl
