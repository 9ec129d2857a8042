-- The open identifiers of a table as a column, and the draw among those.
use Rattle.std.specs.Prelude.{ℕ, zero, suc, ◌+◌, ◌||◌, List, ◌++◌, map, replicate, take, drop, eqb}
use Rattle.ground.specs.Choice.{when◌then◌else◌}
use Rattle.ground.specs.Lists.{any}
use Rattle.event.specs.declared.Event.{Event}
use Rattle.event.specs.Kinds.{diverts}
use Rattle.event.specs.Remote.{asks}
use Rattle.identifier.specs.Identifier.{after, candidates}
use Rattle.call.specs.declared.Call.{Call}
use Rattle.call.specs.Record.{free_call, request_of}
use Rattle.remote.specs.declared.Pendings.{Pendings}
use Rattle.remote.specs.Held.{timers_of}
use Rattle.timed.specs.declared.Pending.{Pending}
use Rattle.timed.specs.Timed.{waits}

-- the first n of one list, then the rest of another
abbrev pub over : {A : Type 0} → ℕ → List A → List A → List A
over n new old = take n new ++ drop n old

-- an open request's identifier plus 1; 0 where none is open
abbrev pub held_of : Pending → ℕ
held_of p = when waits p then p.identifier + 1 else 0

abbrev pub held_by : Call → ℕ
held_by c = held_of (request_of c)

-- those of the station's own requests
abbrev pub four_of : Pendings → List ℕ
four_of p = map (λ t. held_of t.request) (timers_of p)

-- a column of the calls' identifiers with those behind it: document 02, Seven: "These requests draw identifiers from the same station"
abbrev pub joined_of : List ℕ → Pendings → List ℕ
joined_of held p = held ++ four_of p

-- the first of so many candidates that the column doesn't hold; where it holds all, the one after them
unfoldable pub first_free_in : ℕ → List ℕ → ℕ → ℕ
first_free_in zero held candidate = candidate
first_free_in (suc more) held candidate =
    let later = first_free_in more held (after candidate) in
    when any (eqb (candidate + 1)) held then later else candidate

-- the identifier that the event's request takes, from a column of those that calls hold and the station's own; only a divert and kinds 16
-- to 19 ask for one
abbrev pub identifier_in : Event → List ℕ → Pendings → ℕ → ℕ
identifier_in e held p next = when diverts e || asks e then first_free_in candidates (joined_of held p) next else next

-- 64 free records: what counts past the table's end
abbrev pub frees : List Call
frees = replicate 64 free_call

-- the open identifiers of the first n records as a column of 64 numbers: each plus 1, and 0 where none is open
abbrev pub column_of : ℕ → List Call → List ℕ
column_of n calls = map held_by (over n calls frees)
