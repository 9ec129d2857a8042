-- No sound record has an open request with identifier 0, and an invoke's identifier is echoed whatever it is. Assumes nothing.
use Prim.Native.Nat.{ℕ}
use mathlib.Core.Path.{◌≡◌, refl}
use mathlib.Core.Logic.{inl, inr}
use mathlib.Core.Bool.{not}
use lib.Dec.{T, eqb, eqb→eq, T_not}
use Rattle.ground.proofs.Bools.{eq→eqb, when_has}
use Rattle.event.specs.declared.Event.{Event}
use Rattle.event.specs.Kinds.{cfnr}
use Rattle.call.specs.declared.Call.{Call}
use Rattle.call.specs.Record.{invoked}
use Rattle.call.specs.Outgoing.{turns_down, turned_down, redirected, forwarded, forwarded_on, rerouted, act_outgoing}
use Rattle.call.specs.Act.{act}
use Rattle.call.specs.Identifiers.{RequestThere, Echoes, InvokeEchoes}
use Rattle.call.proofs.Sound.{requested_incoming}

pub request_there : RequestThere
request_there last c h r z =
    let w = requested_incoming last c h r in
    let n : T (not (eqb c.identifier 0)) = rw (eqb→eq c.cds 1 r) at w.identifier in
    T_not (eqb c.identifier 0) n (eq→eqb c.identifier 0 z)

turned_down_echoes : (c : Call) (e : Event) → Echoes e (turned_down c e)
turned_down_echoes c e = record { letter = inr refl; message = refl; answer = refl }

forwarded_echoes : (c : Call) (e : Event) → Echoes e (forwarded c e)
forwarded_echoes c e = record { letter = inl refl; message = refl; answer = refl }

forwarded_on_echoes : (c : Call) (e : Event) → Echoes e (forwarded_on c e)
forwarded_on_echoes c e = record { letter = inl refl; message = refl; answer = refl }

redirected_echoes : (c : Call) (e : Event) → Echoes e (redirected c e)
redirected_echoes c e = record { letter = inl refl; message = refl; answer = refl }

rerouted_echoes : (c : Call) (e : Event) → Echoes e (rerouted c e)
rerouted_echoes c e =
    when_has (Echoes e) (turns_down c e) (λ _. turned_down_echoes c e)
    (λ _. when_has (Echoes e) (invoked c) (λ _. forwarded_on_echoes c e)
    (λ _. when_has (Echoes e) (eqb e.reason cfnr) (λ _. forwarded_echoes c e) (λ _. redirected_echoes c e)))

invoke_act : (c : Call) (e : Event) (identifier : ℕ) → e.kind ≡ 12 → act c e identifier ≡ rerouted c e
unfolding act act_outgoing
invoke_act c e identifier q = rw q

pub invoke_echoes : InvokeEchoes
invoke_echoes c e identifier q = rw (invoke_act c e identifier q) (rerouted_echoes c e)
