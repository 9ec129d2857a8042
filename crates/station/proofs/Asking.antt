-- A done divert: the request that it opens, and the identifier and counter that it sends. Assumes nothing.
use Prim.Native.Nat.{ℕ}
use mathlib.Core.Path.{◌≡◌, refl}
use mathlib.Core.Bool.{not, ◌||◌}
use mathlib.Core.List.{List}
use lib.Dec.{T, eqb→eq}
use lib.Seq.{get_or-set_same}
use Rattle.ground.proofs.Bools.{is_false}
use Rattle.event.specs.declared.Event.{Event}
use Rattle.event.specs.Kinds.{diverts}
use Rattle.event.specs.Remote.{asks as asks-ours}
use Rattle.call.specs.declared.Call.{Call}
use Rattle.call.specs.Record.{free_call}
use Rattle.call.specs.Incoming.{asking, diverted, act_incoming}
use Rattle.call.specs.Act.{act}
use Rattle.station.specs.declared.Station.{Station}
use Rattle.station.specs.Table.{at, identifier_for}
use Rattle.station.specs.Step.{Outcome, effect_at, step}
use Rattle.station.specs.Demand1.{code_of}
use Rattle.station.specs.Demand2.{Asks, DivertAsks, NextStays}
use Rattle.station.proofs.Stepped.{Stepped, refuses, settles, moves, stepped}
use Rattle.station.proofs.Named.{named_acts}

divert_act : (c : Call) (e : Event) (k : ℕ) → e.kind ≡ 6 → act c e k ≡ diverted c e k
unfolding act act_incoming
divert_act c e k q = rw q

asks : (s : Station) (calls : List Call) (e : Event) → e.kind ≡ 6 → code_of s calls e ≡ 0 → Asks s calls e (step s calls e)
asks s calls e q z =
    let i = e.call in
    let c = at calls i in
    let k = identifier_for s calls in
    let a = named_acts s calls e (rw q tt) (rw q) z in
    let x : effect_at s calls e i ≡ diverted c e k = divert_act c e k q in
    let r = get_or-set_same calls i (asking c e k) free_call a.there in
    rw (a.leaves, x)
    (record {
      request = record { asked = rw r tt; bears = rw r };
      reason = rw r;
      start = rw r;
      next = rw q;
      identifier = refl;
      counter = refl;
      invoke_identifier = refl;
      invoke_counter = refl;
    })

pub divert_asks : DivertAsks
divert_asks s calls e t z = asks s calls e (eqb→eq e.kind 6 t) z

stays : {s : Station} {calls : List Call} {e : Event} {o : Outcome} → Stepped s calls e o → T (not (diverts e || asks-ours e)) → o.station.next ≡ s.next
stays (refuses n q) t = refl
stays {e = e} (settles p r l) t = rw (is_false (diverts e || asks-ours e) t)
stays {e = e} (moves p l) t = rw (is_false (diverts e || asks-ours e) t)

pub next_stays : NextStays
next_stays s calls e t = stays (stepped s calls e) t
