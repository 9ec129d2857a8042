-- "Numbers of the answers, tested in this order"
use Rattle.std.specs.Prelude.{ℕ, Bool, ◌&&◌, ◌||◌, not, List, ltb, leb, eqb, length}
use Rattle.ground.specs.Choice.{when◌then◌else◌}
use Rattle.ground.specs.Lists.{first}
use Rattle.event.specs.declared.Event.{Event}
use Rattle.event.specs.Kinds.{opens, of_incoming, of_outgoing, diverts, answers_request, ends}
use Rattle.event.specs.WellMade.{well_made}
use Rattle.call.specs.declared.Call.{Call}
use Rattle.call.specs.Record.{is_free}
use Rattle.call.specs.State.{wrong_call, basic_forbids, state_forbids}
use Rattle.call.specs.Incoming.{counter_sent}
use Rattle.remote.specs.Rules.{already_asked, none_waits, other_answer}
use Rattle.station.specs.declared.Station.{Station}
use Rattle.station.specs.Table.{at, sound}

-- "1: table empty, over 64 records or not sound, or limit outside 1 to 15"; document 02, Three: "an open request with 0, or a next
-- identifier 0"; Seven: "Soundness reaches the pending ones and the kept destinations too: codes in range, unused fields 0, no identifier 0
-- or shared with any open request, no start after the last time; else 1"
abbrev pub not_sound : Station → List Call → Bool
not_sound s calls = not (sound s calls)

-- "2: time before the last time"
abbrev pub early : Station → Event → Bool
early s e = ltb e.time s.last

-- "3: kind outside 1 to 15, a field against the table above"; document 02, Three: "a kind 7 or 8 event with identifier 0"; Seven: "kinds 16
-- to 31 are no longer 3", but where a field of theirs is against its own rule
abbrev pub ill_made : Event → Bool
ill_made e = not (well_made e)

-- "4: call past the table's end, free, or of the other direction"
abbrev pub no_such_call : List Call → Event → Bool
no_such_call calls e =
    ((of_incoming e || of_outgoing e || ends e) && leb (length calls) e.call) || wrong_call (at calls e.call) e

-- document 02, Eight: "10 when no sound record in that basic state takes the event", by the table of `call/specs/State`, which is that sentence
-- (`BasicExact`; of this number `Demand1: TenExact`)
abbrev pub not_in_basic_state : List Call → Event → Bool
not_in_basic_state calls e = basic_forbids (at calls e.call) e

-- "5: The state rules below don't take the event"; document 02, Seven: "a result or error with none pending is 5"; Eight: behind 10 this
-- is "11 when only a service state (CDS, CDR, CDO, a grant, a missing leg 2) forbids it"; "in Seven its case becomes 11"; "5 is no longer given"
abbrev pub not_taken : Station → List Call → Event → Bool
not_taken s calls e = state_forbids (at calls e.call) e || none_waits s.remote e

-- "6: kind 7 or 8: not the identifier of that call's open request"
abbrev pub other_identifier : Call → Event → Bool
other_identifier c e = answers_request e && not (eqb e.identifier c.identifier)

-- document 02, Seven: "with another identifier 6"
abbrev pub foreign_answer : Station → Call → Event → Bool
foreign_answer s c e = other_identifier c e || other_answer s.remote e

-- "7: kind 6: counter plus 1 exceeds the limit"
abbrev pub over_limit : Station → Call → Event → Bool
over_limit s c e = diverts e && ltb s.limit (counter_sent c)

-- "8: kind 1 to 3: no free record"
abbrev pub no_free_record : List Call → Event → Bool
no_free_record calls e = opens e && leb (length calls) (first is_free calls)

-- document 02, Seven: "16 to 19 with one of the same sort pending is 9"
abbrev pub pending_already : Station → Event → Bool
pending_already s e = already_asked s.remote e

-- what is left where the table was found sound; 10 and 11 stand where 5 stood
unfoldable pub refusal_on_sound : Station → List Call → Event → ℕ
refusal_on_sound s calls e =
    when early s e then 2 else
    when ill_made e then 3 else
    when no_such_call calls e then 4 else
    when not_in_basic_state calls e then 10 else
    when not_taken s calls e then 11 else
    when foreign_answer s (at calls e.call) e then 6 else
    when over_limit s (at calls e.call) e then 7 else
    when no_free_record calls e then 8 else
    when pending_already s e then 9 else
    0

-- the number of the answer
unfoldable pub refusal : Station → List Call → Event → ℕ
refusal s calls e = when not_sound s calls then 1 else refusal_on_sound s calls e
