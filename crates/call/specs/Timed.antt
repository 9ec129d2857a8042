-- T1's request of a record is a timed request of length 10,000, as those of T2 to T5 are: what kinds 6, 7, 8 and 10 are to it. The
-- theorems are in proofs/Timed; the laws of `timed` hold of it through them.
use Rattle.std.specs.Prelude.{ℕ, ◌≡◌, not, T}
use Rattle.event.specs.declared.Event.{Event}
use Rattle.event.specs.Kinds.{DivertCall, ReroutingResult, ReroutingError, clock}
use Rattle.timed.specs.Timed.{answers, t1, Moment, ask, result, reject, tick, after}
use Rattle.call.specs.declared.Call.{Call}
use Rattle.call.specs.Record.{request_of, requested}
use Rattle.call.specs.Incoming.{due}
use Rattle.call.specs.Act.{act}

-- the event is this moment of T1's request
abbrev pub IsT1 : Call → Event → ℕ → Moment → Type 0
IsT1 c e identifier moment = request_of (act c e identifier).call ≡ after t1 e.time (request_of c) moment

-- "6: .. Enters Requested, starts T1."
abbrev pub DivertAsksT1 : Type 0
DivertAsksT1 = (c : Call) (e : Event) (identifier : ℕ) → e.kind ≡ DivertCall → T (not (requested c)) → IsT1 c e identifier (ask identifier)

-- "7: Idle, granted. 8: Idle, not granted.", of the request that bears their identifier
abbrev pub ResultEndsT1 : Type 0
ResultEndsT1 =
    (c : Call) (e : Event) (identifier : ℕ) → e.kind ≡ ReroutingResult → T (answers e.identifier (request_of c))
    → IsT1 c e identifier (result e.identifier)

abbrev pub ErrorEndsT1 : Type 0
ErrorEndsT1 =
    (c : Call) (e : Event) (identifier : ℕ) → e.kind ≡ ReroutingError → T (answers e.identifier (request_of c))
    → IsT1 c e identifier (reject e.identifier)

-- "10: of the records Requested with time minus start at least 10,000, the lowest ends as by a reject"
abbrev pub ClockEndsT1 : Type 0
ClockEndsT1 = (c : Call) (e : Event) (identifier : ℕ) → T (clock e) → T (due e.time c) → IsT1 c e identifier tick
