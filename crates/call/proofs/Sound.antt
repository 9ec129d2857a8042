-- A sound record by its parts: free, outgoing or incoming, each with the sentences that it keeps. Assumes nothing.
use Prim.Native.Nat.{ℕ}
use mathlib.Core.Path.{◌≡◌}
use mathlib.Core.Bool.{not, ◌&&◌}
use lib.Dec.{T, eqb, eqb→eq, T_not}
use Rattle.ground.proofs.Bools.{and_l, and_r, and_i, by_cases, is_true, from_true}
use Rattle.ground.specs.Lists.{all}
use Rattle.waits.specs.Waits.{no_waits}
use Rattle.waits.specs.Soundness.{waits_unused}
use Rattle.waits.proofs.Kept.{unused_none}
use Rattle.call.specs.declared.Call.{Call}
use Rattle.call.specs.Record.{is_free, is_outgoing, is_incoming, requested, free_call}
use Rattle.call.specs.Soundness.{outgoing_unused, incoming_unused, outgoing_codes, party_there, waiting_holds, history_holds, divert_holds, sound_outgoing, incoming_codes, own_there, cdf_holds, numbers_hold, request_holds, identifier_there, excludes, wait_holds, start_holds, sound_incoming, sound_call}

pub record Outgoing (c : Call) : Type 0 where
  pub direction : T (is_outgoing c)
  pub unused : T (incoming_unused c)
  pub codes : T (outgoing_codes c)
  pub party : T (party_there c)
  pub waiting : T (waiting_holds c)
  pub history : T (history_holds c.history)
  pub divert : T (divert_holds c)

pub record Incoming (last : ℕ) (c : Call) : Type 0 where
  pub direction : T (is_incoming c)
  pub unused : T (outgoing_unused c)
  pub codes : T (incoming_codes c)
  pub own : T (own_there c)
  pub cdf : T (cdf_holds c)
  pub numbers : T (numbers_hold c)
  pub request : T (request_holds c)
  pub identifier : T (identifier_there c)
  pub apart : T (excludes c)
  pub wait : T (wait_holds c)
  pub start : T (start_holds last c)

-- what a sound record is
pub data Sound (last : ℕ) (c : Call) : Type 0 where
  free : c ≡ free_call → Sound last c
  outgoing : Outgoing c → Sound last c
  incoming : Incoming last c → Sound last c

ruleset parts = (and_l, and_r, eqb→eq)

-- "each unused field is 0": each field of a free record
record AllZero (c : Call) : Type 0 where
  direction : c.direction ≡ 0
  basic : c.basic ≡ 0
  cdo : c.cdo ≡ 0
  cdr : c.cdr ≡ 0
  cds : c.cds ≡ 0
  cdf : c.cdf ≡ 0
  granted : c.granted ≡ 0
  counter : c.counter ≡ 0
  party : c.party ≡ 0
  waiting : c.waiting ≡ no_waits
  seen : c.history.seen ≡ 0
  strictest : c.history.strictest ≡ 0
  forbidden : c.history.forbidden ≡ 0
  shown : c.history.shown ≡ 0
  nominated : c.history.nominated ≡ 0
  own : c.own ≡ 0
  diverting : c.diverting ≡ 0
  original : c.original ≡ 0
  identifier : c.identifier ≡ 0
  reason : c.reason ≡ 0
  start : c.start ≡ 0

zeros : (c : Call) → T (is_free c) → T (eqb c.basic 0 && outgoing_unused c && incoming_unused c) → AllZero c
zeros c d h =
    let u : T (waits_unused c.waiting) = search parts depth 20 in
    let n = unused_none c.waiting u in
    search parts depth 20

all_zero : (c : Call) → AllZero c → c ≡ free_call
all_zero c w = λ z. record {
  direction = w.direction z;
  basic = w.basic z;
  cdo = w.cdo z;
  cdr = w.cdr z;
  cds = w.cds z;
  cdf = w.cdf z;
  granted = w.granted z;
  counter = w.counter z;
  party = w.party z;
  waiting = w.waiting z;
  history = record {
    seen = w.seen z;
    strictest = w.strictest z;
    forbidden = w.forbidden z;
    shown = w.shown z;
    nominated = w.nominated z;
  };
  own = w.own z;
  diverting = w.diverting z;
  original = w.original z;
  identifier = w.identifier z;
  reason = w.reason z;
  start = w.start z;
}

-- the test and its parts, by the direction
pub free_of : (last : ℕ) (c : Call) → T (sound_call last c) → T (is_free c) → c ≡ free_call
unfolding sound_call
free_of last c h d = all_zero c (zeros c d (simp (is_true (is_free c) d) at h))

pub outgoing_of : (last : ℕ) (c : Call) → T (sound_call last c) → T (is_outgoing c) → Outgoing c
unfolding sound_call sound_outgoing
outgoing_of last c h d = let g : T (sound_outgoing c) = rw (eqb→eq c.direction 1 d) at h in search parts depth 8

pub incoming_of : (last : ℕ) (c : Call) → T (sound_call last c) → T (is_incoming c) → Incoming last c
unfolding sound_call sound_incoming
incoming_of last c h d = let g : T (sound_incoming last c) = rw (eqb→eq c.direction 2 d) at h in search parts depth 12

pub free_sound : (last : ℕ) → T (sound_call last free_call)
unfolding sound_call waits_unused all
free_sound last = tt

pub outgoing_sound : (last : ℕ) {c : Call} → Outgoing c → T (sound_call last c)
unfolding sound_call sound_outgoing
outgoing_sound last {c} w = let g : T (sound_outgoing c) = search and_i depth 8 in rw (eqb→eq c.direction 1 w.direction) g

pub incoming_sound : {last : ℕ} {c : Call} → Incoming last c → T (sound_call last c)
unfolding sound_call sound_incoming
incoming_sound {last} {c} w = let g : T (sound_incoming last c) = search and_i depth 12 in rw (eqb→eq c.direction 2 w.direction) g

pub sound_view : (last : ℕ) (c : Call) → T (sound_call last c) → Sound last c
unfolding sound_call
sound_view last c h =
    by_cases (is_free c) (λ a. free (free_of last c h (from_true (is_free c) a))) (λ a.
    by_cases (is_outgoing c) (λ b. outgoing (outgoing_of last c h (from_true (is_outgoing c) b))) (λ b.
    by_cases (is_incoming c) (λ i. incoming (incoming_of last c h (from_true (is_incoming c) i))) (λ i.
    absurd (simp (a, b, i) at h))))

pub sound_whole : (last : ℕ) (c : Call) → Sound last c → T (sound_call last c)
sound_whole last c (free e) = rw e (free_sound last)
sound_whole last c (outgoing w) = outgoing_sound last w
sound_whole last c (incoming w) = incoming_sound w

pub unasked : (c : Call) → T (incoming_unused c) → T (not (requested c))
unasked c h = let z : c.cds ≡ 0 = search parts depth 12 in rw z tt

-- an open request is one of an incoming call
pub requested_incoming : (last : ℕ) (c : Call) → T (sound_call last c) → T (requested c) → Incoming last c
requested_incoming last c h r = go (sound_view last c h)
  where
    go : Sound last c → Incoming last c
    go (free e) = absurd (rw e at r)
    go (outgoing w) = absurd (T_not (requested c) (unasked c w.unused) r)
    go (incoming w) = w
