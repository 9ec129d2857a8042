-- What one walk notes of a table, from its last record to its first, and what it tells with the station's own requests.
use Rattle.std.specs.Prelude.{ℕ, suc, Bool, true, ◌&&◌, not, List, [], ◌∷◌, None, Some, eqb, ltb}
use Rattle.ground.specs.Choice.{when◌then◌else◌}
use Rattle.timed.specs.declared.Pending.{Pending}
use Rattle.timed.specs.Timed.{waits}
use Rattle.call.specs.declared.Call.{Call}
use Rattle.call.specs.Record.{is_free, is_incoming, request_of}
use Rattle.call.specs.Soundness.{sound_call}
use Rattle.sound.specs.Cases.{open_by, free_by}
use Rattle.marks.specs.Marks.{no_marks, with_request, with_four, told_of}
use Rattle.survey.specs.declared.Asked.{Asked}
use Rattle.survey.specs.declared.Passed.{Passed}
use Rattle.survey.specs.declared.Noted.{Noted}

-- the lowest free place, with the record c at i before those that were seen
abbrev pub free_with : ℕ → Call → ℕ → ℕ
free_with free c i = when is_free c then i else free

-- the lowest place whose request started before a time, with the request p at i
abbrev pub due_with : ℕ → Pending → ℕ → ℕ → ℕ
due_with due p i by = when waits p && ltb p.start by then i else due

-- nothing was seen yet of a table of n
abbrev pub unseen_of : ℕ → Passed
unseen_of n = record { sound = true; requested = None; free = n; due = n }

-- the request that is noted of a record: in a sound table only an incoming call has one
abbrev pub request_in : Call → Pending
request_in c = when is_incoming c then request_of c else record { start = 0; identifier = 0; wait = 0 }

-- what is noted with the record c at i
abbrev pub passed_with : Asked → Passed → Call → ℕ → Passed
passed_with q v c i = record {
  sound = sound_call q.last c && v.sound;
  requested = when waits (request_in c) then Some (request_in c).identifier else None;
  free = free_with v.free c i;
  due = due_with v.due (request_in c) i q.by;
}

-- the same by cases: of a call without an open request whether it is sound,
abbrev pub with_soundness : Passed → Bool → Passed
with_soundness v well = record { sound = well && v.sound; requested = None; free = v.free; due = v.due }

-- of one with an open request also its identifier and its time,
abbrev pub passed_open : Asked → Passed → Call → ℕ → Passed
passed_open q v c i = record {
  sound = open_by q.last c && v.sound;
  requested = Some c.identifier;
  free = v.free;
  due = due_with v.due (request_of c) i q.by;
}

-- and of what is no call also whether it is free
abbrev pub passed_free : Passed → Call → ℕ → Passed
passed_free v c i = record { sound = free_by c && v.sound; requested = None; free = free_with v.free c i; due = v.due }

-- what is noted of the records from the place i on, in a table of n
unfoldable pub passed_of : Asked → ℕ → ℕ → List Call → Passed
passed_of q n i [] = unseen_of n
passed_of q n i (c ∷ rest) = passed_with q (passed_of q n (suc i) rest) c i

-- the marks that their open requests set
unfoldable pub marked_of : List Call → Bool × List ℕ
marked_of [] = no_marks
marked_of (c ∷ rest) = with_request (marked_of rest) (request_in c)

-- a walk counts how often a mark is set that was set before; what it tells is whether any was
abbrev pub any_twice : ℕ → Bool
any_twice twice = not (eqb twice 0)

-- what the walk tells, of what it noted and what was marked: the station's own requests set their marks too
abbrev pub summed_of : Passed → Bool × List ℕ → Asked → Noted
summed_of v s q =
    let m = told_of (with_four s q.pending) q.next in
    record { sound = v.sound; clash = m.clash; marked = m.marked; free = v.free; due = v.due }

-- what is told of a table of n
abbrev pub survey_of : Asked → ℕ → List Call → Noted
survey_of q n calls = summed_of (passed_of q n 0 calls) (marked_of calls) q
