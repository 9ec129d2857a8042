-- One request that waits for its answer while a timer runs: asked, waiting, answered, expired. The timer's length is a
-- variable: T1 to T5 are instances.
use Rattle.std.specs.Prelude.{ℕ, zero, suc, ◌-◌, Bool, ◌&&◌, not, List, [], ◌∷◌, ◌++◌, leb, eqb, get_or, set}
use Rattle.ground.specs.Choice.{when◌then◌else◌}
use Rattle.ground.specs.Lists.{first}
use Rattle.timed.specs.declared.Pending.{Pending}

-- none waits: "unused fields 0"
abbrev pub idle : Pending
idle = record { start = 0; identifier = 0; wait = 0 }

-- the code of one that waits
abbrev pub Waiting : ℕ
Waiting = 1

-- asked with an identifier at a time, at which its timer starts
abbrev pub asked : ℕ → ℕ → Pending
asked identifier time = record { start = time; identifier = identifier; wait = Waiting }

abbrev pub waits : Pending → Bool
waits p = eqb p.wait Waiting

-- a result or an error with an identifier is its answer
abbrev pub answers : ℕ → Pending → Bool
answers identifier p = waits p && eqb identifier p.identifier

-- "time minus start at least" the timer's length
abbrev pub due : ℕ → ℕ → Pending → Bool
due length time p = waits p && leb length (time - p.start)

-- "expiry equal to a reject": a result, an error or a reject ends it, and so does its expiry
abbrev pub answered : ℕ → Pending → Pending
answered identifier p = when answers identifier p then idle else p

abbrev pub expired : ℕ → ℕ → Pending → Pending
expired length time p = when due length time p then idle else p

-- "codes in range, unused fields 0, no identifier 0 .., no start after the last time"
abbrev pub unused : Pending → Bool
unused p = eqb p.wait 0 && eqb p.identifier 0 && eqb p.start 0

abbrev pub holds : ℕ → Pending → Bool
holds last p = when waits p then not (eqb p.identifier 0) && leb p.start last else unused p

-- what may happen to one request; `pass` is anything that has nothing to do with it
pub data Moment : Type 0 where
  ask : ℕ → Moment
  result : ℕ → Moment
  reject : ℕ → Moment
  tick : Moment
  pass : Moment

abbrev pub after : ℕ → ℕ → Pending → Moment → Pending
after length time p (ask identifier) = when waits p then p else asked identifier time
after length time p (result identifier) = answered identifier p
after length time p (reject identifier) = answered identifier p
after length time p tick = expired length time p
after length time p pass = p

-- a request with the length of its timer; several stand in a list, in the order in which clock events end them
pub record Timer : Type 0 where
  pub length : ℕ
  pub request : Pending

abbrev pub waiting : Timer → Bool
waiting t = waits t.request

abbrev pub due_now : ℕ → Timer → Bool
due_now time t = due t.length time t.request

abbrev pub ended : Timer → Timer
ended t = record { length = t.length; request = idle }

-- the identifiers of those that wait
abbrev pub own : Timer → List ℕ
own t = when waiting t then t.request.identifier ∷ [] else []

unfoldable pub identifiers_of : List Timer → List ℕ
identifiers_of [] = []
identifiers_of (t ∷ rest) = own t ++ identifiers_of rest

abbrev pub no_timer : Timer
no_timer = record { length = 0; request = idle }

-- "timers T2 of 30,000 ms and T3, T4, T5 of 15,000 ms"; T1: "time minus start at least 10,000"
abbrev pub t1 : ℕ
t1 = 10000

abbrev pub t2 : ℕ
t2 = 30000

abbrev pub t3to5 : ℕ
t3to5 = 15000

-- a clock event ends the first of a list that is due; so many of them
abbrev pub after_tick : ℕ → List Timer → List Timer
after_tick time l = set l (first (due_now time) l) (ended (get_or l (first (due_now time) l) no_timer))

unfoldable pub after_ticks : ℕ → ℕ → List Timer → List Timer
after_ticks zero time l = l
after_ticks (suc n) time l = after_ticks n time (after_tick time l)
