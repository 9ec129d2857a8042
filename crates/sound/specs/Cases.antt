-- When a record is sound, by cases that each look at few fields: what the code tests. `proofs/Cases` has that it says the same as "What a record may hold".
use Rattle.std.specs.Prelude.{Bool, false, ◌&&◌, ◌||◌, not, ℕ, eqb, leb}
use Rattle.ground.specs.Choice.{when◌then◌else◌}
use Rattle.notice.specs.Notice.{unmarked}
use Rattle.waits.specs.Soundness.{waits_unused, waits_hold}
use Rattle.call.specs.declared.Call.{Call}
use Rattle.call.specs.Record.{Proceeding, Active, Idle, CdfDone, is_free, active, delivered, cdf_none, wait, granted, undiverted, fits}
use Rattle.call.specs.Soundness.{incoming_unused, outgoing_unused, outgoing_codes, own_there, party_there, history_holds, divert_holds, start_holds}
use Rattle.sound.specs.Words.{codes_word}

-- it was diverted up to 15 times before, or not at all
abbrev pub diverted_by : Call → Bool
diverted_by c =
    when undiverted c then cdf_none c && (eqb c.diverting 0 && eqb c.original 0) else
    leb c.counter 15 && (eqb c.cdf CdfDone || (wait c && not (active c)))

-- what holds of each incoming call's record beside its basic state
abbrev pub open_base : Call → Bool
open_base c = outgoing_unused c && own_there c

-- and with it
abbrev pub incoming_base : Call → Bool
incoming_base c = outgoing_unused c && (leb Proceeding c.basic && leb c.basic Active) && own_there c

-- the short case, neither diverted nor a request: what is left is 0
abbrev pub incoming_rest : Call → Bool
incoming_rest c = eqb c.diverting 0 && eqb c.original 0 && (eqb c.reason 0 && eqb c.identifier 0 && eqb c.start 0)

-- no request is open: one was granted, or none was
abbrev pub closed_by : Call → Bool
closed_by c =
    when granted c then (when eqb c.cds Idle && eqb c.identifier 0 && eqb c.start 0 then fits c.reason c else false) else
    eqb c.cds Idle && eqb c.granted unmarked && eqb c.reason 0 && eqb c.identifier 0 && eqb c.start 0

-- what holds of an open request
abbrev pub request_by : ℕ → Call → Bool
request_by last c = when eqb c.granted unmarked && not (eqb c.identifier 0) && start_holds last c then fits c.reason c else false

-- an incoming call's record with an open request: its basic state is in range where the reason fits it
abbrev pub open_by : ℕ → Call → Bool
open_by last c = when open_base c then (when diverted_by c then request_by last c else false) else false

-- one without, the short case first
abbrev pub incoming_by : Call → Bool
incoming_by c =
    when incoming_base c then
    (when eqb (codes_word c) 0 then incoming_rest c else when diverted_by c then closed_by c else false) else
    false

-- what holds of each outgoing call's record
abbrev pub outgoing_base : Call → Bool
outgoing_base c = incoming_unused c && outgoing_codes c && party_there c

-- what holds of the history beside CDO
abbrev pub told_by : Call → Bool
told_by c = when history_holds c.history then divert_holds c else false

-- an outgoing call's record with CDR Invoked
abbrev pub waiting_by : Call → Bool
waiting_by c = when outgoing_base c then (when delivered c && waits_hold c.waiting then told_by c else false) else false

-- one outside Invoked, in which none may wait
abbrev pub outgoing_by : Call → Bool
outgoing_by c = when outgoing_base c then (when waits_unused c.waiting then told_by c else false) else false

-- a free record; one whose direction is out of range is not sound
abbrev pub free_by : Call → Bool
free_by c = is_free c && (eqb c.basic 0 && outgoing_unused c && incoming_unused c)
