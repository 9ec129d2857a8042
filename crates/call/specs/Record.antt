-- "What a record may hold": the states by their names. A state's name begins with a capital letter; what tests a record for it does not.
use Rattle.std.specs.Prelude.{ℕ, Bool, ◌&&◌, ◌||◌, eqb}
use Rattle.event.specs.Kinds.{cfu, cfb, cfnr}
use Rattle.notice.specs.Notice.{marked, no_history}
use Rattle.timed.specs.declared.Pending.{Pending}
use Rattle.timed.specs.Timed.{Waiting, waits}
use Rattle.waits.specs.Waits.{no_waits, last_number}
use Rattle.call.specs.declared.Call.{Call}

-- "A record is free, outgoing or incoming."
abbrev pub free : ℕ
free = 0

abbrev pub outgoing : ℕ
outgoing = 1

abbrev pub incoming : ℕ
incoming = 2

abbrev pub is_free : Call → Bool
is_free c = eqb c.direction free

abbrev pub is_outgoing : Call → Bool
is_outgoing c = eqb c.direction outgoing

abbrev pub is_incoming : Call → Bool
is_incoming c = eqb c.direction incoming

-- "basic state Proceeding, Delivered or Active", "basic state Proceeding, Received or Active"
abbrev pub Proceeding : ℕ
Proceeding = 1

abbrev pub Delivered : ℕ
Delivered = 2

abbrev pub Received : ℕ
Received = 2

abbrev pub Active : ℕ
Active = 3

abbrev pub proceeding : Call → Bool
proceeding c = eqb c.basic Proceeding

abbrev pub delivered : Call → Bool
delivered c = eqb c.basic Delivered

abbrev pub received : Call → Bool
received c = eqb c.basic Received

abbrev pub active : Call → Bool
active c = eqb c.basic Active

-- "CDO Idle", "CDR Idle", "CDS Idle"
abbrev pub Idle : ℕ
Idle = 0

-- "CDO Idle or Divert"
abbrev pub Divert : ℕ
Divert = 1

abbrev pub divert : Call → Bool
divert c = eqb c.cdo Divert

-- "CDR Idle or Invoked"
abbrev pub Invoked : ℕ
Invoked = 1

abbrev pub invoked : Call → Bool
invoked c = eqb c.cdr Invoked

-- "CDS Idle or Requested": a request that waits for its answer while T1 runs
abbrev pub Requested : ℕ
Requested = Waiting

abbrev pub request_of : Call → Pending
request_of c = record { start = c.start; identifier = c.identifier; wait = c.cds }

abbrev pub requested : Call → Bool
requested c = waits (request_of c)

-- "CDF none, Wait or done"
abbrev pub CdfNone : ℕ
CdfNone = 0

abbrev pub Wait : ℕ
Wait = 1

abbrev pub CdfDone : ℕ
CdfDone = 2

abbrev pub cdf_none : Call → Bool
cdf_none c = eqb c.cdf CdfNone

abbrev pub wait : Call → Bool
wait c = eqb c.cdf Wait

-- "a granted mark with its reason"
abbrev pub granted : Call → Bool
granted c = eqb c.granted marked

-- "counter 0 to 15 (0: no diversion)"
abbrev pub undiverted : Call → Bool
undiverted c = eqb c.counter 0

-- "reason fits the basic state (cfu and cfb Proceeding, cfnr Received)"
abbrev pub fits : ℕ → Call → Bool
fits reason c = ((eqb reason cfu || eqb reason cfb) && proceeding c) || (eqb reason cfnr && received c)

-- a free record: "each unused field is 0"
abbrev pub free_call : Call
free_call = record {
  direction = free;
  basic = 0;
  cdo = 0;
  cdr = 0;
  cds = 0;
  cdf = 0;
  granted = 0;
  counter = 0;
  start = 0;
  party = 0;
  history = no_history;
  own = 0;
  diverting = 0;
  original = 0;
  identifier = 0;
  reason = 0;
  waiting = no_waits;
}

-- "the forwarded party (leg 2)": the last waiting number, which is kept once
abbrev pub forwarded_party : Call → ℕ
forwarded_party c = last_number c.waiting
