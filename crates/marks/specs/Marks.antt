-- Marks of identifiers, and what they tell of the requests that set theirs.
use Rattle.std.specs.Prelude.{ℕ, ◌/◌, ◌%◌, ◌^◌, Bool, false, ◌||◌, List, eqb, get_or, set, replicate}
use Rattle.std.specs.Int.Bits.{bit_or}
use Rattle.ground.specs.Choice.{when◌then◌else◌}
use Rattle.timed.specs.declared.Pending.{Pending}
use Rattle.timed.specs.Timed.{waits}
use Rattle.remote.specs.declared.Pendings.{Pendings}
use Rattle.marks.specs.declared.Marked.{Marked}

-- a mark is a bit for each identifier modulo 512, in eight words: the word that has it, how often it is set there, 0 or 1, and that word with it
abbrev pub word_of : ℕ → ℕ
word_of identifier = identifier / 64 % 8

abbrev pub count_in : ℕ → ℕ → ℕ
count_in word identifier = word / 2 ^ (identifier % 64) % 2

abbrev pub put_in : ℕ → ℕ → ℕ
put_in word identifier = bit_or word (2 ^ (identifier % 64))

-- whether it is set there
abbrev pub set_in : ℕ → ℕ → Bool
set_in word identifier = eqb (count_in word identifier) 1

-- the mark of an identifier is set
abbrev pub is_marked : List ℕ → ℕ → Bool
is_marked marks identifier = set_in (get_or marks (word_of identifier) 0) identifier

-- the marks with it
abbrev pub with_mark : List ℕ → ℕ → List ℕ
with_mark marks identifier = set marks (word_of identifier) (put_in (get_or marks (word_of identifier) 0) identifier)

-- the marks with that of a request, where it waits; and whether that one was set before
abbrev pub marks_with : List ℕ → Pending → List ℕ
marks_with marks p = when waits p then with_mark marks p.identifier else marks

abbrev pub twice_in : List ℕ → Pending → Bool
twice_in marks p = when waits p then is_marked marks p.identifier else false

-- whether a mark was set twice, and the marks: at first, and with a request more
abbrev pub no_marks : Bool × List ℕ
no_marks = (false, replicate 8 0)

unfoldable pub with_request : Bool × List ℕ → Pending → Bool × List ℕ
with_request s p = (s.0 || twice_in s.1 p, marks_with s.1 p)

-- and with the four that a station may hold. Document 02, Seven: "so "no two open requests share" covers both tables"
abbrev pub with_four : Bool × List ℕ → Pendings → Bool × List ℕ
with_four s p = with_request (with_request (with_request (with_request s p.activation) p.deactivation) p.interrogation) p.check

-- what the marks tell: whether one was set twice, and whether an identifier's is set
abbrev pub told_of : Bool × List ℕ → ℕ → Marked
told_of s identifier = record { clash = s.0; marked = is_marked s.1 identifier }
