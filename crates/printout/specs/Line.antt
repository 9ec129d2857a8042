-- "The panel printout": "prints a line each: position from 0, answer number, call, notice (its reason), number, identifier,
-- counter, messages; `-` for none."
use Rattle.std.specs.Prelude.{ℕ, suc, List, [], ◌∷◌, ◌++◌, eqb}
use Rattle.ground.specs.Choice.{when◌then◌else◌}
use Rattle.event.specs.declared.Event.{Event}
use Rattle.notice.specs.Notice.{no_notice, no_number}
use Rattle.call.specs.declared.Call.{Call}
use Rattle.call.specs.declared.Message.{Message}
use Rattle.call.specs.declared.Sent.{Sent}
use Rattle.call.specs.Messages.{no_identifier, no_counter, no_letter}
use Rattle.remote.specs.Kinds.{no_leg}
use Rattle.station.specs.declared.Station.{Station}
use Rattle.station.specs.declared.Answer.{Answer}
use Rattle.station.specs.Station.{no_call}
use Rattle.station.specs.Step.{TurnTaken, turns}
use Rattle.digits.specs.Digits.{decimal, space, newline}

abbrev pub dash : List ℕ
dash = 45 ∷ []

-- a column: its value, or a dash for none
abbrev pub column : ℕ → ℕ → List ℕ
column none n = when eqb n none then dash else decimal n

-- document 02, Seven: "a, d, i, c for the invokes, r and e for answers, no leg"
abbrev pub leg_text : ℕ → List ℕ
leg_text leg = when eqb leg no_leg then [] else decimal leg

-- "Letters, with leg"
abbrev pub letter_with_leg : Message → List ℕ
letter_with_leg m = when eqb m.letter no_letter then [] else m.letter ∷ leg_text m.leg

abbrev pub messages : Sent → List ℕ
messages sent =
    when eqb sent.first.letter no_letter then dash else
    letter_with_leg sent.first ++ letter_with_leg sent.second ++ letter_with_leg sent.third

-- one line
unfoldable pub line : ℕ → Answer → List ℕ
line position a =
    decimal position ++ space ++ decimal a.code ++ space ++ column no_call a.call ++ space ++ column no_notice a.notice
    ++ space ++ column no_number a.number ++ space ++ column no_identifier a.identifier ++ space
    ++ column no_counter a.counter ++ space ++ messages a.sent ++ newline

-- "A cut last record prints `cut` and its byte count."
abbrev pub cut_line : ℕ → List ℕ
cut_line count = 99 ∷ 117 ∷ 116 ∷ 32 ∷ decimal count ++ newline

-- "prints a line each": the lines of the turns of a run, from a position on
unfoldable pub lines_of : ℕ → List TurnTaken → List (List ℕ)
lines_of position [] = []
lines_of position (t ∷ rest) = line position t.outcome.answer ∷ lines_of (suc position) rest

-- the lines of a list of events
unfoldable pub printed : ℕ → Station → List Call → List Event → List (List ℕ)
unfolding turns lines_of
printed position s calls events = lines_of position (turns s calls events)
