-- Demand 1. Assumes nothing.
use native.Mathlib.Omega.{arith}
use mathlib.Core.Path.{◌≡◌, refl, sym, ◌∙◌}
use mathlib.Core.List.{List}
use Rattle.ground.proofs.Bools.{is_true}
use Rattle.event.specs.declared.Event.{Event}
use Rattle.call.specs.declared.Call.{Call}
use Rattle.remote.proofs.Settled.{marks_stay}
use Rattle.station.specs.declared.Station.{Station}
use Rattle.station.specs.Table.{sound, identifier_for}
use Rattle.station.specs.Refusals.{refusal}
use Rattle.station.specs.Step.{Outcome, step, step_on_sound}
use Rattle.station.specs.Demand1.{conditions, Given, code_of, NumberExact, Refusal, RefusalStays, Timed, DoneTimed, OnSound, ShortIsFive}
use Rattle.station.proofs.Numbers.{given, given_once, refusal_numbered, Passed, passed}
use Rattle.station.proofs.Stepped.{Stepped, refuses, settles, moves, stepped}

-- the number of an answer is that of the page's cascade
pub number : {s : Station} {calls : List Call} {e : Event} {o : Outcome} → Stepped s calls e o → refusal s calls e ≡ o.answer.code
number (refuses n q) = q
number (settles p r l) = p.number
number (moves p l) = p.number

pub code_refusal : (s : Station) (calls : List Call) (e : Event) → code_of s calls e ≡ refusal s calls e
code_refusal s calls e = sym (number (stepped s calls e))

code_given : (s : Station) (calls : List Call) (e : Event) → Given (conditions s calls e) (code_of s calls e)
code_given s calls e = rw (code_refusal s calls e, refusal_numbered s calls e) (given (conditions s calls e))

pub number_exact : NumberExact
number_exact s calls e n =
    (λ q. rw q at (code_given s calls e), λ g. given_once (conditions s calls e) (code_of s calls e) n (code_given s calls e) g)

-- what is known of an event whose number is 0
pub done_passed : (s : Station) (calls : List Call) (e : Event) → code_of s calls e ≡ 0 → Passed s calls e
done_passed s calls e q = passed s calls e (sym (code_refusal s calls e) ∙ q)

refusal_of : {s : Station} {calls : List Call} {e : Event} {o : Outcome} → Stepped s calls e o → (o.answer.code ≡ 0 → ⊥) → Refusal s calls o
refusal_of (refuses n q) z = record { answer = refl; station = refl; calls = refl }
refusal_of (settles p r l) z = absurd (z refl)
refusal_of (moves p l) z = absurd (z refl)

pub refusal_stays : RefusalStays
refusal_stays s calls e z = refusal_of (stepped s calls e) z

timed_of : {s : Station} {calls : List Call} {e : Event} {o : Outcome} → Stepped s calls e o → o.answer.code ≡ 0 → Timed s e o
timed_of (refuses n q) z = absurd (omega (arith, z))
timed_of (settles p r l) z = record { last = refl; limit = refl; enabled = refl; allowed = refl }
timed_of {s} {calls} {e} (moves p l) z =
    let (a, b) = marks_stay s.remote e (identifier_for s calls) in
    record { last = refl; limit = refl; enabled = a; allowed = b }

pub done_timed : DoneTimed
done_timed s calls e z = timed_of (stepped s calls e) z

pub on_sound : OnSound
unfolding step step_on_sound refusal
on_sound s calls e h = rw (is_true (sound s calls) h)

pub short_is_five : ShortIsFive
short_is_five = refl
