-- "What a record may hold", by its sentences: when one record is sound.
use Rattle.std.specs.Prelude.{ℕ, Bool, false, ◌&&◌, ◌||◌, not, leb, eqb}
use Rattle.ground.specs.Choice.{when◌then◌else◌}
-- "exactly when" and "only" of the page, passed on
pub use Rattle.ground.specs.Choice.{exactly, only}
use Rattle.event.specs.Kinds.{cfnr, with_number}
use Rattle.notice.specs.declared.History.{History}
use Rattle.notice.specs.Notice.{marked, seen}
use Rattle.waits.specs.Soundness.{waits_hold, waits_unused}
use Rattle.call.specs.declared.Call.{Call}
use Rattle.call.specs.Record.{Proceeding, Active, Divert, Invoked, Requested, CdfDone, is_free, is_outgoing, is_incoming, active, delivered, divert, invoked, requested, wait, granted, undiverted, cdf_none, fits}

abbrev pub history_unused : History → Bool
history_unused h =
    eqb h.seen 0 && eqb h.strictest 0 && eqb h.forbidden 0 && eqb h.shown 0 && eqb h.nominated 0

-- "each unused field is 0": the fields of an outgoing call
abbrev pub outgoing_unused : Call → Bool
outgoing_unused c =
    eqb c.cdo 0 && eqb c.cdr 0 && eqb c.party 0 && waits_unused c.waiting && history_unused c.history

-- "each unused field is 0": the fields of an incoming call
abbrev pub incoming_unused : Call → Bool
incoming_unused c =
    eqb c.cds 0 && eqb c.cdf 0 && eqb c.granted 0 && eqb c.counter 0 && eqb c.own 0 && eqb c.diverting 0
    && eqb c.original 0 && eqb c.identifier 0 && eqb c.reason 0 && eqb c.start 0

-- "each code is in range": "basic state Proceeding, Delivered or Active; CDO Idle or Divert; CDR Idle or Invoked"
abbrev pub outgoing_codes : Call → Bool
outgoing_codes c = leb Proceeding c.basic && leb c.basic Active && leb c.cdo Divert && leb c.cdr Invoked

-- "each party .. is not 0": "the party on leg 1"
abbrev pub party_there : Call → Bool
party_there c = not (eqb c.party 0)

-- "in Invoked also the forwarded party (leg 2), option and reason"; "CDR is Invoked only in Delivered and with reason cfnr";
-- "each code is in range, each party .. is not 0"; document 02, Six: "soundness the kept ones", and none waits outside Invoked
abbrev pub waiting_holds : Call → Bool
waiting_holds c =
    when invoked c then delivered c && waits_hold c.waiting else
    waits_unused c.waiting

-- "the history: DLI1 seen, strictest option, a forbidden DLI3 seen, number shown, last nominated number. It is all 0
-- before the first DLI1"; "each code is in range, .. (DLI1 seen) nominated number is not 0"
abbrev pub history_holds : History → Bool
history_holds h =
    when seen h then leb h.strictest with_number && leb h.forbidden marked && leb h.shown marked && not (eqb h.nominated 0) else
    history_unused h

-- "CDO is Divert exactly when a DLI1 was seen and the state isn't Active"
abbrev pub divert_holds : Call → Bool
divert_holds c = exactly (divert c) (seen c.history && not (active c))

-- "Outgoing: .."
unfoldable pub sound_outgoing : Call → Bool
sound_outgoing c =
    incoming_unused c && outgoing_codes c && party_there c && waiting_holds c && history_holds c.history && divert_holds c

-- "each code is in range": "basic state Proceeding, Received or Active; CDS Idle or Requested; CDF none, Wait or done; ..
-- counter 0 to 15 ..; in Requested the reason ..; a granted mark"
abbrev pub incoming_codes : Call → Bool
incoming_codes c =
    leb Proceeding c.basic && leb c.basic Active && leb c.cds Requested && leb c.cdf CdfDone
    && leb c.granted marked && leb c.counter 15 && leb c.reason cfnr

-- "each .. own .. number is not 0"
abbrev pub own_there : Call → Bool
own_there c = not (eqb c.own 0)

-- "CDF is none exactly when the counter is 0"
abbrev pub cdf_holds : Call → Bool
cdf_holds c = exactly (cdf_none c) (undiverted c)

-- "counter 0 to 15 (0: no diversion), diverting and original called numbers": without a diversion both are unused
abbrev pub numbers_hold : Call → Bool
numbers_hold c = only (undiverted c) (eqb c.diverting 0 && eqb c.original 0)

-- "in Requested the reason, identifier and T1 start; a granted mark with its reason"
abbrev pub request_holds : Call → Bool
request_holds c =
    (requested c || granted c || eqb c.reason 0) && (requested c || (eqb c.identifier 0 && eqb c.start 0))

-- document 02, Three: "an open request with 0 .. is 1"
abbrev pub identifier_there : Call → Bool
identifier_there c = only (requested c) (not (eqb c.identifier 0))

-- "Requested and granted exclude each other and Active, their reason fits the basic state"
abbrev pub excludes : Call → Bool
excludes c =
    not (requested c && granted c) && only (requested c || granted c) (not (active c))
    && only (requested c || granted c) (fits c.reason c)

-- "Wait excludes Active"
abbrev pub wait_holds : Call → Bool
wait_holds c = not (wait c && active c)

-- "no T1 start is after the last time"
abbrev pub start_holds : ℕ → Call → Bool
start_holds last c = leb c.start last

-- "Incoming: .."
unfoldable pub sound_incoming : ℕ → Call → Bool
sound_incoming last c =
    outgoing_unused c && incoming_codes c && own_there c && cdf_holds c && numbers_hold c && request_holds c
    && identifier_there c && excludes c && wait_holds c && start_holds last c

-- one record is sound, where the station's last time is given
unfoldable pub sound_call : ℕ → Call → Bool
sound_call last c =
    when is_free c then eqb c.basic 0 && outgoing_unused c && incoming_unused c else
    when is_outgoing c then sound_outgoing c else
    when is_incoming c then sound_incoming last c else
    false
