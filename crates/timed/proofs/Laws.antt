-- The laws of a timed request, once for every length. Assumes nothing.
use Prim.Native.Nat.{ℕ, ◌-◌, ◌≤◌}
use native.Mathlib.Omega.{arith}
use mathlib.Core.Path.{◌≡◌, refl, sym, ◌∙◌}
use mathlib.Core.Bool.{Bool, true, false, not, ◌&&◌}
use mathlib.Core.List.{[], ◌∷◌}
use lib.Dec.{T, leb, eqb, eqb→eq, leb→le, le→leb, T_not, not_T}
use borrow.Author.Tests.{le-leb, lt-leb, leb-true, eq-eqb, ne_eqb, eqb-true}
use Rattle.ground.specs.Choice.{when◌then◌else◌}
use Rattle.ground.proofs.Bools.{and_l, and_r, and_i, is_true, is_false, from_true, eq→eqb, by_cases, not_not}
use Rattle.ground.proofs.Walks.{both}
use Rattle.timed.specs.declared.Pending.{Pending}
use Rattle.timed.specs.Timed.{idle, asked, waits, answers, due, unused, holds, Moment, ask, result, reject, tick, pass, after}
use Rattle.timed.specs.Laws.{DueExactly, DueNotYet, NotDueAtOnce, DueFrom, DueStays, AskStarts, Ending, by_result, by_reject, by_expiry, EndsOnly, EndsIndeed, WaitsOn, ExpiryRejects, IdleStays, after_all, none, spare, WaitsThrough}

pub due_exactly : DueExactly
due_exactly length time p = (
  λ e. let (w, l) = both (waits p) (leb length (time - p.start)) e in (eqb-true p.wait 1 w, leb-true length (time - p.start) l),
  λ (w, l). simp (eq-eqb p.wait 1 w, le-leb length (time - p.start) l),
)

pub due_not_yet : DueNotYet
due_not_yet length asks identifier time l h = lt-leb length (time - asks) (omega arith)

pub not_due_at_once : NotDueAtOnce
not_due_at_once length identifier time h = due_not_yet length time identifier time h (omega arith)

pub due_from : DueFrom
due_from length asks identifier time h = le-leb length (time - asks) (omega arith)

pub due_stays : DueStays
due_stays length time later p h d =
    let l : length ≤ time - p.start = search (and_r, leb→le) in
    let m : length ≤ later - p.start = omega arith in
    search (and_l, and_i, le→leb)

-- an answer of one that waits and then doesn't bears its identifier
its_answer : (p : Pending) (identifier : ℕ) → T (waits p) → (b : Bool) → answers identifier p ≡ b → T (not (waits (when b then idle else p))) → identifier ≡ p.identifier
its_answer p identifier w true e n = eqb→eq identifier p.identifier (and_r (waits p) (eqb identifier p.identifier) (from_true (answers identifier p) e))
its_answer p identifier w false e n = absurd (T_not (waits p) n w)

its_expiry : (length time : ℕ) (p : Pending) → T (waits p) → (b : Bool) → due length time p ≡ b → T (not (waits (when b then idle else p))) → T (due length time p)
its_expiry length time p w true e n = from_true (due length time p) e
its_expiry length time p w false e n = absurd (T_not (waits p) n w)

pub ask_starts : AskStarts
ask_starts length time identifier p n = rw (is_false (waits p) n)

pub ends_only : EndsOnly
ends_only length time p (ask identifier) w n = absurd (T_not (waits p) (rw (is_true (waits p) w) at n) w)
ends_only length time p (result identifier) w n =
    rw (its_answer p identifier w (answers identifier p) refl n) by_result
ends_only length time p (reject identifier) w n =
    rw (its_answer p identifier w (answers identifier p) refl n) by_reject
ends_only length time p tick w n = by_expiry (its_expiry length time p w (due length time p) refl n)
ends_only length time p pass w n = absurd (T_not (waits p) n w)

pub ends_indeed : EndsIndeed
ends_indeed length time p (result _) w by_result = rw (is_true (waits p) w, eq-eqb p.identifier p.identifier refl)
ends_indeed length time p (reject _) w by_reject = rw (is_true (waits p) w, eq-eqb p.identifier p.identifier refl)
ends_indeed length time p (ask _) w e = elim e [ ]
ends_indeed length time p pass w e = elim e [ ]
ends_indeed length time p tick w (by_expiry d) = rw (is_true (due length time p) d)

-- of a decision between none and what was, one that waits was not ended
kept_on : (b : Bool) (p : Pending) → T (waits (when b then idle else p)) → (when b then idle else p) ≡ p
kept_on true p w = absurd w
kept_on false p w = refl

pub waits_on : WaitsOn
waits_on length time p (ask identifier) w v = rw (is_true (waits p) w)
waits_on length time p (result identifier) w v = kept_on (answers identifier p) p v
waits_on length time p (reject identifier) w v = kept_on (answers identifier p) p v
waits_on length time p tick w v = kept_on (due length time p) p v
waits_on length time p pass w v = refl

pub expiry_rejects : ExpiryRejects
expiry_rejects length time p d =
    let w : T (waits p) = search and_l in
    ends_indeed length time p tick w (by_expiry d) ∙ sym (ends_indeed length time p (reject p.identifier) w by_reject)

pub idle_stays : IdleStays
idle_stays length time identifier = (refl, refl, refl)

pub waits_through : WaitsThrough
unfolding after_all
waits_through length p [] w none = refl
waits_through length p (h ∷ rest) w (spare n s) =
    let v : T (waits (after length h.time p h.moment)) = not_not (waits (after length h.time p h.moment)) (not_T (not (waits (after length h.time p h.moment))) (λ m. n (ends_only length h.time p h.moment w m))) in
    rw (waits_on length h.time p h.moment w v) (waits_through length p rest w s)

-- what an ending tells, by what happened
abbrev pub Tells : ℕ → ℕ → Pending → Moment → Type 0
Tells length time p (ask identifier) = ⊥
Tells length time p (result identifier) = identifier ≡ p.identifier
Tells length time p (reject identifier) = identifier ≡ p.identifier
Tells length time p tick = T (due length time p)
Tells length time p pass = ⊥

pub tells : (length time : ℕ) (p : Pending) (m : Moment) → Ending length time p m → Tells length time p m
tells length time p _ by_result = refl
tells length time p _ by_reject = refl
tells length time p _ (by_expiry d) = d

-- soundness: of none, of one just asked, and under a later last time
pub idle_holds : (last : ℕ) → T (holds last idle)
idle_holds last = tt

pub asked_holds : (identifier time : ℕ) → (identifier ≡ 0 → ⊥) → T (holds time (asked identifier time))
asked_holds identifier time n = simp (ne_eqb identifier 0 n, le-leb time time (omega arith)) tt

pub holds_later : (last time : ℕ) (p : Pending) → last ≤ time → T (holds last p) → T (holds time p)
holds_later last time p l h =
    by_cases (waits p)
    (λ w.
    let g : T (not (eqb p.identifier 0) && leb p.start last) = rw w at h in
    let s : p.start ≤ last = search (and_r, leb→le) in
    let t : p.start ≤ time = omega arith in
    let k : T (not (eqb p.identifier 0)) = search and_l in
    rw w (and_i (not (eqb p.identifier 0)) (leb p.start time) k (le→leb p.start time t)))
    (λ w. let g : T (unused p) = rw w at h in rw w g)

-- one that waits in a sound part bears an identifier that is not 0
pub waiting_there : (last : ℕ) (p : Pending) → T (holds last p) → T (waits p) → p.identifier ≡ 0 → ⊥
waiting_there last p h w z =
    let g : T (not (eqb p.identifier 0) && leb p.start last) = rw (is_true (waits p) w) at h in
    let n : T (not (eqb p.identifier 0)) = search and_l in
    T_not (eqb p.identifier 0) n (eq→eqb p.identifier 0 z)
