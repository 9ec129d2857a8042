-- The cases say the same as the page's conjunction. Assumes nothing.
use Prim.Native.Nat.{ℕ, zero, suc}
use mathlib.Core.Bool.{Bool, true, false, ◌&&◌, ◌||◌, not, false≢true}
use mathlib.Core.Path.{◌≡◌, refl, sym, ap, ◌∙◌}
use native.Mathlib.Omega.{arith}
use borrow.Author.Tests.{ne_eqb, eqb-true, lt-leb, le-leb}
use lib.Dec.{T, eqb, leb}
use Rattle.ground.specs.Choice.{when◌then◌else◌}
use Rattle.ground.proofs.Bools.{by_cases, is_true, from_true, and_l, and_r, and_i}
use Rattle.ground.proofs.Walks.{and_false}
use Rattle.call.specs.declared.Call.{Call}
use Rattle.call.specs.Record.{is_free, is_outgoing, is_incoming, invoked, requested}
use Rattle.call.specs.Soundness.{exactly, only, outgoing_unused, incoming_unused, own_there, cdf_holds, numbers_hold, request_holds, identifier_there, excludes, wait_holds, start_holds, sound_incoming, waiting_holds, history_holds, divert_holds, sound_outgoing, sound_call}
use Rattle.sound.specs.Words.{codes_word}
use Rattle.sound.specs.Cases.{diverted_by, closed_by, request_by, open_base, incoming_base, incoming_rest, open_by, incoming_by, outgoing_base, told_by, waiting_by, outgoing_by, free_by}

and_true : (a : Bool) → a && true ≡ a
and_true true = refl
and_true false = refl

-- a number above a literal is none up to it
over_0 : (n : ℕ) → eqb (suc n) 0 ≡ false
over_0 n = ne_eqb (suc n) 0 (λ (e : suc n ≡ 0). absurd (omega (arith, e)))

over_1 : (n : ℕ) → eqb (suc (suc n)) 1 ≡ false
over_1 n = ne_eqb (suc (suc n)) 1 (λ (e : suc (suc n) ≡ 1). absurd (omega (arith, e)))

over_2 : (n : ℕ) → eqb (suc (suc (suc n))) 2 ≡ false
over_2 n = ne_eqb (suc (suc (suc n))) 2 (λ (e : suc (suc (suc n)) ≡ 2). absurd (omega (arith, e)))

above_1 : (n : ℕ) → leb (suc (suc n)) 1 ≡ false
above_1 n = lt-leb (suc (suc n)) 1 (omega arith)

above_2 : (n : ℕ) → leb (suc (suc (suc n))) 2 ≡ false
above_2 n = lt-leb (suc (suc (suc n))) 2 (omega arith)

-- ---- was it diverted before
undiverted : (cdf basic : ℕ) (x : Bool) → (eqb cdf 0 && x) ≡ (leb cdf 2 && true && exactly (eqb cdf 0) true && only true x && not (eqb cdf 1 && eqb basic 3))
undiverted zero basic x = sym (and_true x)
undiverted (suc zero) basic x = refl
undiverted (suc (suc zero)) basic x = refl
undiverted (suc (suc (suc n))) basic x = rw (over_0 (suc (suc n)), above_2 n)

diverted : (cdf basic : ℕ) (l x : Bool) → (l && (eqb cdf 2 || (eqb cdf 1 && not (eqb basic 3)))) ≡ (leb cdf 2 && l && exactly (eqb cdf 0) false && only false x && not (eqb cdf 1 && eqb basic 3))
diverted zero basic true x = refl
diverted zero basic false x = refl
diverted (suc zero) basic true x = refl
diverted (suc zero) basic false x = refl
diverted (suc (suc zero)) basic true x = refl
diverted (suc (suc zero)) basic false x = refl
diverted (suc (suc (suc n))) basic l x = rw (over_2 n, over_1 (suc n), above_2 n) (and_false l)

pub diverted_same : (counter cdf basic : ℕ) (x : Bool) → (when eqb counter 0 then eqb cdf 0 && x else leb counter 15 && (eqb cdf 2 || (eqb cdf 1 && not (eqb basic 3))))
    ≡ (leb cdf 2 && leb counter 15 && exactly (eqb cdf 0) (eqb counter 0) && only (eqb counter 0) x && not (eqb cdf 1 && eqb basic 3))
diverted_same counter cdf basic x =
    by_cases (eqb counter 0)
    (λ t. rw (eqb-true counter 0 t) (undiverted cdf basic x))
    (λ f. rw f (diverted cdf basic (leb counter 15) x))

-- ---- is a request open, was one granted, or neither
abbrev fits_in : ℕ → ℕ → Bool
fits_in reason basic = ((eqb reason 1 || eqb reason 2) && eqb basic 1) || (eqb reason 3 && eqb basic 2)

-- what fits is a reason, and not Active
fits_known : (reason basic : ℕ) → (leb reason 3 && (not (eqb basic 3) && fits_in reason basic)) ≡ fits_in reason basic
fits_known zero basic = and_false (not (eqb basic 3))
fits_known (suc zero) basic = by_cases (eqb basic 1) (λ t. rw (eqb-true basic 1 t)) (λ f. rw f (and_false (not (eqb basic 3))))
fits_known (suc (suc zero)) basic = by_cases (eqb basic 1) (λ t. rw (eqb-true basic 1 t)) (λ f. rw f (and_false (not (eqb basic 3))))
fits_known (suc (suc (suc zero))) basic = by_cases (eqb basic 2) (λ t. rw (eqb-true basic 2 t)) (λ f. rw f (and_false (not (eqb basic 3))))
fits_known (suc (suc (suc (suc n)))) basic =
    let a : eqb (suc (suc (suc (suc n)))) 3 ≡ false = ne_eqb (suc (suc (suc (suc n)))) 3 (λ (e : suc (suc (suc (suc n))) ≡ 3). absurd (omega (arith, e))) in
    let b : leb (suc (suc (suc (suc n)))) 3 ≡ false = lt-leb (suc (suc (suc (suc n)))) 3 (omega arith) in
    rw (a, b, over_1 (suc (suc n)), over_2 (suc n))

open_case : (l nb f n st : Bool) → (l && (nb && f)) ≡ f → (f && n && st) ≡ (l && true && n && (nb && f) && st)
open_case true nb f true st h = rw (h, and_true f)
open_case true nb f false st h = rw (and_false f)
open_case false nb f n st h = rw (← h)

granted_case : (l nb f iz s0 st : Bool) → (l && (nb && f)) ≡ f → (s0 ≡ true → st ≡ true) → (f && iz && s0) ≡ (l && (iz && s0) && true && (nb && f) && st)
granted_case true nb f true true st h b = rw (h, b refl, and_true (f && true))
granted_case false nb f true true st h b = rw (← h)
granted_case l nb f true false st h b = rw (and_false (f && true), and_false l)
granted_case l nb f false s0 st h b = rw (and_false f, and_false l)

neither_case : (l r0 iz s0 st : Bool) → (r0 ≡ true → l ≡ true) → (s0 ≡ true → st ≡ true) → (r0 && iz && s0) ≡ (l && (r0 && (iz && s0)) && true && true && st)
neither_case l true true true st a b = rw (a refl, b refl)
neither_case l true true false st a b = rw (a refl)
neither_case l true false s0 st a b = rw (a refl)
neither_case l false iz s0 st a b = rw (and_false l)

same_false : (b : Bool) → (when b then false else false) ≡ false
same_false true = refl
same_false false = refl

no_start : (start last : ℕ) → eqb start 0 ≡ true → leb start last ≡ true
no_start start last t = le-leb start last (omega (arith, eqb-true start 0 t))

no_reason : (reason : ℕ) → eqb reason 0 ≡ true → leb reason 3 ≡ true
no_reason reason t = le-leb reason 3 (omega (arith, eqb-true reason 0 t))

request_all : (cds granted reason basic start last : ℕ) (iz : Bool)
    → (when eqb cds 1 then eqb granted 0 && fits_in reason basic && not iz && leb start last else when eqb granted 1 then eqb cds 0 && fits_in reason basic && iz && eqb start 0 else
    eqb cds 0 && eqb granted 0 && eqb reason 0 && iz && eqb start 0)
    ≡ (leb cds 1 && leb granted 1 && leb reason 3 && ((eqb cds 1 || eqb granted 1 || eqb reason 0) && (eqb cds 1 || (iz && eqb start 0))) && only (eqb cds 1) (not iz)
    && (not (eqb cds 1 && eqb granted 1) && only (eqb cds 1 || eqb granted 1) (not (eqb basic 3)) && only (eqb cds 1 || eqb granted 1) (fits_in reason basic)) && leb start last)
request_all zero zero reason basic start last iz = neither_case (leb reason 3) (eqb reason 0) iz (eqb start 0) (leb start last) (no_reason reason) (no_start start last)
request_all zero (suc zero) reason basic start last iz = granted_case (leb reason 3) (not (eqb basic 3)) (fits_in reason basic) iz (eqb start 0) (leb start last) (fits_known reason basic) (no_start start last)
request_all zero (suc (suc g)) reason basic start last iz = rw (over_1 g, over_0 (suc g), above_1 g)
request_all (suc zero) zero reason basic start last iz = open_case (leb reason 3) (not (eqb basic 3)) (fits_in reason basic) (not iz) (leb start last) (fits_known reason basic)
request_all (suc zero) (suc zero) reason basic start last iz = rw (and_false (leb reason 3 && true && not iz))
request_all (suc zero) (suc (suc g)) reason basic start last iz = rw (over_0 (suc g), above_1 g)
request_all (suc (suc n)) granted reason basic start last iz = rw (over_1 n, over_0 (suc n), above_1 n) (same_false (eqb granted 1))

-- the second of four tests, asked last
asked_last : (a n s f : Bool) → (when a && n && s then f else false) ≡ (a && f && n && s)
asked_last true true true f = rw (and_true f, and_true f)
asked_last true true false f = sym (and_false (f && true))
asked_last true false s f = rw (and_false f)
asked_last false n s f = refl

pub request_same : (cds granted reason basic start last : ℕ) (iz : Bool)
    → (when eqb cds 1 then (when eqb granted 0 && not iz && leb start last then fits_in reason basic else false) else when eqb granted 1 then (when eqb cds 0 && iz && eqb start 0 then fits_in reason basic else false) else
    eqb cds 0 && eqb granted 0 && eqb reason 0 && iz && eqb start 0)
    ≡ (leb cds 1 && leb granted 1 && leb reason 3 && ((eqb cds 1 || eqb granted 1 || eqb reason 0) && (eqb cds 1 || (iz && eqb start 0))) && only (eqb cds 1) (not iz)
    && (not (eqb cds 1 && eqb granted 1) && only (eqb cds 1 || eqb granted 1) (not (eqb basic 3)) && only (eqb cds 1 || eqb granted 1) (fits_in reason basic)) && leb start last)
request_same cds granted reason basic start last iz =
    rw (asked_last (eqb granted 0) (not iz) (leb start last) (fits_in reason basic), asked_last (eqb cds 0) iz (eqb start 0) (fits_in reason basic)) (request_all cds granted reason basic start last iz)

-- ---- the whole
iff : (a b : Bool) → (T a → T b) → (T b → T a) → a ≡ b
iff true true f g = refl
iff true false f g = absurd (f tt)
iff false true f g = absurd (g tt)
iff false false f g = refl

mix : (o b1 b3 lc lf lg ln lr own ch nh rh ih eh wh sh : Bool)
    → (o && (b1 && b3) && own && (lf && ln && ch && nh && wh) && (lc && lg && lr && rh && ih && eh && sh))
    ≡ (o && (b1 && b3 && lc && lf && lg && ln && lr) && own && ch && nh && rh && ih && eh && wh && sh)
mix o b1 b3 lc lf lg ln lr own ch nh rh ih eh wh sh = iff _ _ (λ h. search (and_i, and_l, and_r) depth 24) (λ h. search (and_i, and_l, and_r) depth 24)

-- "What a record may hold", of an incoming call, by cases: a request is open, one was granted, or neither
abbrev either_by : ℕ → Call → Bool
either_by last c = when requested c then request_by last c else closed_by c

incoming_all : (last : ℕ) (c : Call)
    → (outgoing_unused c && (leb 1 c.basic && leb c.basic 3) && not (eqb c.own 0) && diverted_by c && either_by last c) ≡ sound_incoming last c
unfolding sound_incoming
incoming_all last c =
    rw (diverted_same c.counter c.cdf c.basic (eqb c.diverting 0 && eqb c.original 0), request_same c.cds c.granted c.reason c.basic c.start last (eqb c.identifier 0))
    (mix (outgoing_unused c) (leb 1 c.basic) (leb c.basic 3) (leb c.cds 1) (leb c.cdf 2) (leb c.granted 1) (leb c.counter 15) (leb c.reason 3)
    (own_there c) (cdf_holds c) (numbers_hold c) (request_holds c) (identifier_there c) (excludes c) (wait_holds c) (start_holds last c))

-- a test after the other is their conjunction
two_tests : (a d r : Bool) → (when a then (when d then r else false) else false) ≡ (a && d && r)
two_tests true true r = refl
two_tests true false r = refl
two_tests false d r = refl

three_tests : (a w h d : Bool) → (when a then (when w then (when h then d else false) else false) else false) ≡ (a && w && h && d)
three_tests true true true d = refl
three_tests true true false d = refl
three_tests true false h d = refl
three_tests false w h d = refl

-- the short case says the same
both_if : (a b : Bool) → (when a then b else false) ≡ (a && b)
both_if true b = refl
both_if false b = refl

short : (c : Call) → eqb (codes_word c) 0 ≡ true → incoming_rest c ≡ (when diverted_by c then closed_by c else false)
short c t =
    let w : codes_word c ≡ 0 = eqb-true (codes_word c) 0 t in
    let e₀ : c.cds ≡ 0 = omega (arith, w) in
    let e₁ : c.cdf ≡ 0 = omega (arith, w) in
    let e₂ : c.granted ≡ 0 = omega (arith, w) in
    let e₃ : c.counter ≡ 0 = omega (arith, w) in
    rw (e₀, e₁, e₂, e₃) (sym (both_if (eqb c.diverting 0 && eqb c.original 0) (eqb c.reason 0 && eqb c.identifier 0 && eqb c.start 0)))

either : (c : Call) → (when eqb (codes_word c) 0 then incoming_rest c else when diverted_by c then closed_by c else false) ≡ (when diverted_by c then closed_by c else false)
either c = by_cases (eqb (codes_word c) 0) (λ t. rw t (short c t)) (λ f. rw f)

-- with an open request, whose reason fits a basic state that is in range
fits_in_range : (reason basic : ℕ) → (leb 1 basic && leb basic 3 && fits_in reason basic) ≡ fits_in reason basic
fits_in_range reason zero = rw (and_false (eqb reason 1 || eqb reason 2), and_false (eqb reason 3))
fits_in_range reason (suc zero) = refl
fits_in_range reason (suc (suc zero)) = refl
fits_in_range reason (suc (suc (suc n))) =
    rw (over_1 (suc n), over_2 n, and_false (eqb reason 1 || eqb reason 2), and_false (eqb reason 3)) (and_false (leb 1 (suc (suc (suc n))) && leb (suc (suc (suc n))) 3))

ranged : (a r o d g f : Bool) → (r && f) ≡ f → (a && o && d && (when g then f else false)) ≡ (a && r && o && d && (when g then f else false))
ranged a true o d g f h = rw (and_true a)
ranged a false o d true f h = rw (← h, and_false (a && o && d), and_false a)
ranged a false o d false f h = rw (and_false (a && o && d), and_false a)

open_same : (last : ℕ) (c : Call) → requested c ≡ true → open_by last c ≡ sound_incoming last c
open_same last c t =
    two_tests (open_base c) (diverted_by c) (request_by last c)
    ∙ ranged (outgoing_unused c) (leb 1 c.basic && leb c.basic 3) (own_there c) (diverted_by c) (eqb c.granted 0 && not (eqb c.identifier 0) && start_holds last c) (fits_in c.reason c.basic) (fits_in_range c.reason c.basic)
    ∙ (rw t at (incoming_all last c))

-- and without
incoming_same : (last : ℕ) (c : Call) → requested c ≡ false → incoming_by c ≡ sound_incoming last c
incoming_same last c f =
    ap (λ (b : Bool). when incoming_base c then b else false) (either c) ∙ two_tests (incoming_base c) (diverted_by c) (closed_by c) ∙ (rw f at (incoming_all last c))

-- with CDR Invoked, and outside it
outgoing_all : (c : Call) → (when outgoing_base c then (when waiting_holds c then told_by c else false) else false) ≡ sound_outgoing c
unfolding sound_outgoing
outgoing_all c = three_tests (outgoing_base c) (waiting_holds c) (history_holds c.history) (divert_holds c)

waiting_same : (c : Call) → invoked c ≡ true → waiting_by c ≡ sound_outgoing c
waiting_same c t = rw t at (outgoing_all c)

outgoing_same : (c : Call) → invoked c ≡ false → outgoing_by c ≡ sound_outgoing c
outgoing_same c f = rw f at (outgoing_all c)

-- ---- by direction
module _ (last : ℕ) (c : Call) where
  incoming_call : is_incoming c ≡ true → sound_call last c ≡ sound_incoming last c
  unfolding sound_call
  incoming_call d = let e : c.direction ≡ 2 = eqb-true c.direction 2 d in rw e

  outgoing_call : is_outgoing c ≡ true → sound_call last c ≡ sound_outgoing c
  unfolding sound_call
  outgoing_call d = let e : c.direction ≡ 1 = eqb-true c.direction 1 d in rw e

  pub sound_open : is_incoming c ≡ true → requested c ≡ true → open_by last c ≡ sound_call last c
  sound_open d t = open_same last c t ∙ sym (incoming_call d)

  pub sound_incoming_lem : is_incoming c ≡ true → requested c ≡ false → incoming_by c ≡ sound_call last c
  sound_incoming_lem d f = incoming_same last c f ∙ sym (incoming_call d)

  pub sound_waiting : is_outgoing c ≡ true → invoked c ≡ true → waiting_by c ≡ sound_call last c
  sound_waiting d t = waiting_same c t ∙ sym (outgoing_call d)

  pub sound_outgoing_lem : is_outgoing c ≡ true → invoked c ≡ false → outgoing_by c ≡ sound_call last c
  sound_outgoing_lem d f = outgoing_same c f ∙ sym (outgoing_call d)

  pub sound_free : is_incoming c ≡ false → is_outgoing c ≡ false → free_by c ≡ sound_call last c
  unfolding sound_call
  sound_free d o = rw (d, o) (sym (both_if (is_free c) (eqb c.basic 0 && outgoing_unused c && incoming_unused c)))

  -- by all cases
  pub call_by : sound_call last c ≡ (when is_incoming c then (when requested c then open_by last c else incoming_by c) else when is_outgoing c then (when invoked c then waiting_by c else outgoing_by c) else free_by c)
  call_by =
      by_cases (is_incoming c)
      (λ d. by_cases (requested c) (λ t. rw (d, t) (sym (sound_open d t))) (λ f. rw (d, f) (sym (sound_incoming_lem d f))))
      (λ d. by_cases (is_outgoing c) (λ o. by_cases (invoked c) (λ t. rw (d, o, t) (sym (sound_waiting o t))) (λ f. rw (d, o, f) (sym (sound_outgoing_lem o f)))) (λ o. rw (d, o) (sym (sound_free d o))))

  -- only an incoming call has an open request
  pub only_incoming : sound_call last c ≡ true → is_incoming c ≡ false → requested c ≡ false
  unfolding sound_call sound_outgoing
  only_incoming s d =
      let none : (eqb c.cds 0 ≡ true) → requested c ≡ false = λ t. rw (eqb-true c.cds 0 t) refl in
      by_cases (is_free c)
      (λ t. let h = from_true _ (rw t at s) in none (is_true _ (search (and_l, and_r, h) depth 16)))
      (λ f. by_cases (is_outgoing c)
      (λ o. let h = from_true _ (rw (f, o) at s) in none (is_true _ (search (and_l, and_r, h) depth 24)))
      (λ o. absurd (false≢true (rw (f, o, d) at s))))
