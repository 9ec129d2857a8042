-- What a timed request does, for every length of its timer. The theorems are in proofs/Laws and proofs/Timers.
use Rattle.std.specs.Prelude.{ℕ, ◌+◌, ◌-◌, ◌≤◌, ◌<◌, ◌≡◌, true, false, not, ◌↔◌, List, [], ◌∷◌, T, length, get_or}
use Rattle.timed.specs.declared.Pending.{Pending}
use Rattle.timed.specs.Timed.{Waiting, idle, asked, waits, due, Moment, ask, result, reject, tick, after, Timer, due_now, no_timer, after_ticks}

-- due exactly when it waits and time minus start is at least the length
abbrev pub DueExactly : Type 0
DueExactly = (length time : ℕ) (p : Pending) → due length time p ≡ true ↔ ((p.wait ≡ Waiting) × (length ≤ time - p.start))

-- not due before its length has passed, and so not right after it was asked; due from then on
abbrev pub DueNotYet : Type 0
DueNotYet = (length asks identifier time : ℕ) → 0 < length → time < asks + length → due length time (asked identifier asks) ≡ false

abbrev pub NotDueAtOnce : Type 0
NotDueAtOnce = (length identifier time : ℕ) → 0 < length → due length time (asked identifier time) ≡ false

abbrev pub DueFrom : Type 0
DueFrom = (length asks identifier time : ℕ) → asks + length ≤ time → due length time (asked identifier asks) ≡ true

abbrev pub DueStays : Type 0
DueStays = (length time later : ℕ) (p : Pending) → time ≤ later → T (due length time p) → T (due length later p)

-- where none waits, a request begins to, with its identifier, and its timer starts
abbrev pub AskStarts : Type 0
AskStarts = (length time identifier : ℕ) (p : Pending) → T (not (waits p)) → after length time p (ask identifier) ≡ asked identifier time

-- how one that waits ends: by a result or an error or reject with its own identifier, or by its expiry
pub data Ending (length time : ℕ) (p : Pending) : Moment → Type 0 where
  by_result : Ending length time p (result p.identifier)
  by_reject : Ending length time p (reject p.identifier)
  by_expiry : T (due length time p) → Ending length time p tick

abbrev pub EndsOnly : Type 0
EndsOnly = (length time : ℕ) (p : Pending) (m : Moment) → T (waits p) → T (not (waits (after length time p m))) → Ending length time p m

-- each of these ends it, and leaves nothing of it
abbrev pub EndsIndeed : Type 0
EndsIndeed = (length time : ℕ) (p : Pending) (m : Moment) → T (waits p) → Ending length time p m → after length time p m ≡ idle

-- while it waits it stays as it was asked
abbrev pub WaitsOn : Type 0
WaitsOn = (length time : ℕ) (p : Pending) (m : Moment) → T (waits p) → T (waits (after length time p m)) → after length time p m ≡ p

-- "expiry equal to a reject"
abbrev pub ExpiryRejects : Type 0
ExpiryRejects = (length time : ℕ) (p : Pending) → T (due length time p) → after length time p tick ≡ after length time p (reject p.identifier)

-- a late answer, and a clock event, find none
abbrev pub IdleStays : Type 0
IdleStays = (length time identifier : ℕ) → (after length time idle (result identifier) ≡ idle)
    × (after length time idle (reject identifier) ≡ idle) × (after length time idle tick ≡ idle)

-- what happens at a time, and a list of it
pub record Happens : Type 0 where
  pub time : ℕ
  pub moment : Moment

unfoldable pub after_all : ℕ → Pending → List Happens → Pending
after_all length p [] = p
after_all length p (h ∷ rest) = after_all length (after length h.time p h.moment) rest

-- over a list in which nothing ends it, it waits as it was asked
pub data Spared (length : ℕ) (p : Pending) : List Happens → Type 0 where
  none : Spared length p []
  spare : {h : Happens} {rest : List Happens} → (Ending length h.time p h.moment → ⊥) → Spared length p rest → Spared length p (h ∷ rest)

abbrev pub WaitsThrough : Type 0
WaitsThrough = (length : ℕ) (p : Pending) (events : List Happens) → T (waits p) → Spared length p events → after_all length p events ≡ p

-- in a list of them each clock event ends the first that is due: as many as the list is long leave none due
abbrev pub TicksClear : Type 0
TicksClear =
    (n time : ℕ) (l : List Timer) → length l ≤ n → (i : ℕ) → T (not (due_now time (get_or (after_ticks n time l) i no_timer)))
