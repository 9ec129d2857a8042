-- T1's request of a record is a timed request of length 10,000. Assumes nothing.
use lib.Dec.{eqb→eq}
use Rattle.ground.proofs.Bools.{is_true, is_false}
use Rattle.timed.specs.Timed.{answers}
use Rattle.call.specs.Record.{request_of, requested}
use Rattle.call.specs.Incoming.{due, act_incoming}
use Rattle.call.specs.Act.{act}
use Rattle.call.specs.Timed.{DivertAsksT1, ResultEndsT1, ErrorEndsT1, ClockEndsT1}

pub divert_asks : DivertAsksT1
unfolding act act_incoming
divert_asks c e identifier k n = rw (k, is_false (requested c) n)

pub result_answers : ResultEndsT1
unfolding act act_incoming
result_answers c e identifier k a = rw (k, is_true (answers e.identifier (request_of c)) a)

pub reject_answers : ErrorEndsT1
unfolding act act_incoming
reject_answers c e identifier k a = rw (k, is_true (answers e.identifier (request_of c)) a)

pub clock_expires : ClockEndsT1
unfolding act
clock_expires c e identifier k d = rw (eqb→eq e.kind 10 k, is_true (due e.time c) d)
