-- What a refusal, a place and an identifier are taken from is the same in both runs. Assumes nothing.
use Prim.Native.Nat.{ℕ, ◌≤◌}
use mathlib.Core.Path.{◌≡◌, refl, ap, ◌∙◌}
use mathlib.Core.Bool.{Bool}
use mathlib.Core.List.{List, Forall₂}
use mathlib.Core.Logic.{⊎_elim}
use native.Mathlib.Omega.{arith}
use lib.Dec.{T}
use borrow.Author.Tests.{le-leb}
use Rattle.ground.specs.Lists.{first}
use Rattle.ground.proofs.Bools.{is_true}
use Rattle.ground.proofs.Pointwise.{get_d_rel, length_rel}
use Rattle.event.specs.declared.Event.{Event}
use Rattle.event.specs.WellMade.{well_made, call_made}
use Rattle.notice.specs.Stricter.{tightened}
use Rattle.waits.proofs.Laws.{party_same, count_same, numbers_same as waiting-numbers-same, reasons_same as waiting-reasons-same}
use Rattle.call.specs.declared.Call.{Call}
use Rattle.call.specs.Record.{is_free}
use Rattle.call.specs.Incoming.{due}
use Rattle.call.specs.Stricter.{StricterEvent, same, lower, hide, StricterCall, stricter}
use Rattle.call.proofs.Stricter.{Framed, framed, framed_of, forbids_same, basic_same, free_same, due_same, free_stricter}
use Rattle.station.specs.declared.Station.{Station}
use Rattle.station.specs.Table.{at, requests_of, sound, identifier_for, place}
use Rattle.station.specs.Refusals.{refusal_on_sound, refusal}
use Rattle.station.specs.Step.{station_with, station_after, far_moved, on_call}
use Rattle.remote.specs.declared.Remote.{Remote}
use Rattle.remote.specs.Rules as far
use Rattle.station.specs.Demand3.{SameStates, acts}

-- a record and a stricter one
pub same_states : {c c' : Call} → StricterCall c c' → SameStates c c'
same_states (stricter c w h p (tightened g strictest forbidden shown low top marked less shut)) = record {
  direction = refl;
  basic = refl;
  cdo = refl;
  cdr = refl;
  cds = refl;
  cdf = refl;
  granted = refl;
  identifier = refl;
  start = refl;
  reason = refl;
  counter = refl;
  party = refl;
  forwarded = party_same c.waiting w p;
  waiting_count = count_same c.waiting w p;
  waiting_numbers = waiting-numbers-same c.waiting w p;
  waiting_reasons = waiting-reasons-same c.waiting w p;
  seen = refl;
  nominated = refl;
  own = refl;
  diverting = refl;
  original = refl;
}

-- two events are well made alike
pub made_same : {e e' : Event} → StricterEvent e e' → well_made e' ≡ well_made e
unfolding well_made call_made
made_same (same e) = refl
made_same (lower e option k l m) =
    let small : option ≤ 2 = omega arith in
    ⊎_elim (λ (z : e.kind ≡ 12). rw z (simp (le-leb option 2 small, le-leb e.option 2 m)))
    (λ (z : e.kind ≡ 13). rw z (simp (le-leb option 2 small, le-leb e.option 2 m))) k
made_same (hide e k) = rw k

-- the first record that passes a test which reads what is shared
first_same : (p : Call → Bool) (reads : (c c' : Call) → StricterCall c c' → p c' ≡ p c) {t t' : List Call} → Forall₂ StricterCall t t' → first p t' ≡ first p t
unfolding first
first_same p f Forall₂.nil = refl
first_same p f (Forall₂.cons {a = c} {b = c'} r rs) = rw (f c c' r, first_same p f rs)

requests_same : {t t' : List Call} → Forall₂ StricterCall t t' → requests_of t' ≡ requests_of t
unfolding requests_of
requests_same Forall₂.nil = refl
requests_same (Forall₂.cons (stricter c w h p q) rs) = rw (requests_same rs)

-- an event of another run is the same to what the station holds: what is tightened is of a call
far_step : (r : Remote) (identifier : ℕ) {e e' : Event} → StricterEvent e e' → far.step r e' identifier ≡ far.step r e identifier
unfolding far.step
far_step r identifier (same e) = refl
far_step r identifier (lower e option k l m) = ⊎_elim (λ (z : e.kind ≡ 12). rw z) (λ (z : e.kind ≡ 13). rw z) k
far_step r identifier (hide e k) = rw k

module _ {t t' : List Call} (q : Forall₂ StricterCall t t') where
  pub at_stricter : (i : ℕ) → StricterCall (at t i) (at t' i)
  at_stricter i = get_d_rel i q free_stricter

  pub place_same : {e e' : Event} → Framed e e' → place t' e' ≡ place t e
  place_same (framed e option flag) = rw (first_same is_free free_same q, first_same (due e.time) (due_same e.time) q)

  pub identifier_same : (s : Station) → identifier_for s t' ≡ identifier_for s t
  identifier_same s = rw (requests_same q)

  pub station_same : (s : Station) {e e' : Event} → Framed e e' → station_after s t' e' ≡ station_after s t e
  station_same s (framed e option flag) = rw (identifier_same s)

  pub with_same : (s : Station) (r : Remote) {e e' : Event} → Framed e e' → station_with s t' e' r ≡ station_with s t e r
  with_same s r (framed e option flag) = rw (identifier_same s)

  pub far_same : (s : Station) {e e' : Event} → StricterEvent e e' → far_moved s t' e' ≡ far_moved s t e
  far_same s {e} p = far_step s.remote (identifier_for s t') p ∙ ap (far.step s.remote e) (identifier_same s)

  on_call_same : {e e' : Event} → Framed e e' → on_call t' e' ≡ on_call t e
  on_call_same (framed e option flag) = rw (place_same (framed e option flag), length_rel q)

  -- every number but 1
  numbers_same : (s : Station) {e e' : Event} → Framed e e' → well_made e' ≡ well_made e → refusal_on_sound s t' e' ≡ refusal_on_sound s t e
  unfolding refusal_on_sound
  numbers_same s (framed e option flag) made =
      let c = at_stricter e.call in
      let w = same_states c in
      rw (made, length_rel q, w.direction, w.identifier, w.counter, basic_same c (framed e option flag), forbids_same c (framed e option flag), first_same is_free free_same q)

  -- number 1 is given in neither run: both tables are sound
  pub refusal_same : (s : Station) {e e' : Event} → T (sound s t) → T (sound s t') → StricterEvent e e' → refusal s t' e' ≡ refusal s t e
  unfolding refusal
  refusal_same s a b p = rw (is_true (sound s t') b, is_true (sound s t) a) (numbers_same s (framed_of p) (made_same p))

  pub acts_same : (s : Station) {e e' : Event} → T (sound s t) → T (sound s t') → StricterEvent e e' → acts s t' e' ≡ acts s t e
  acts_same s a b p = rw (refusal_same s a b p, on_call_same (framed_of p))
