-- The answer in lines: "`0 LAST ENDING COUNTER` with ending `rings`, `busy` or `limit`, and in a second line the way, as
-- `3 cfu 7 cfnr 12`; or `3 - - -` where it is refused."
use Rattle.std.specs.Prelude.{ℕ, zero, suc, List, ◌++◌, eqb}
use Rattle.ground.specs.Choice.{when◌then◌else◌}
use Rattle.event.specs.Kinds.{cfu, cfb}
use Rattle.digits.specs.Digits.{decimal, space, newline}
use Rattle.digits.specs.Digits.{characters_of}
use Rattle.rehearsal.specs.declared.Panel.{Panel}
use Rattle.rehearsal.specs.declared.Rehearsed.{Rehearsed}
use Rattle.rehearsal.specs.Plan.{panels_of, panel_at, reason_of, next}
use Rattle.rehearsal.specs.Rehearsal.{rings, ends_busy, rehearsal_of}

abbrev pub ending_word : ℕ → List ℕ
ending_word ending =
    when eqb ending rings then characters_of "rings" else
    when eqb ending ends_busy then characters_of "busy" else
    characters_of "limit"

abbrev pub reason_word : ℕ → List ℕ
reason_word reason =
    when eqb reason cfu then characters_of "cfu" else
    when eqb reason cfb then characters_of "cfb" else
    characters_of "cfnr"

-- a panel that forwards the call, with its reason
abbrev pub step_text : ℕ → ℕ → List ℕ
step_text panel reason = decimal panel ++ space ++ reason_word reason ++ space

-- the way of a call that a panel is offered, over so many forwards: each panel that forwarded it, then the last
unfoldable pub way : List Panel → ℕ → ℕ → List ℕ
way plan at zero = decimal at
way plan at (suc forwards) = step_text at (reason_of (panel_at plan at)) ++ way plan (next plan at) forwards

-- the first line
abbrev pub last_text : ℕ → ℕ → List ℕ
last_text code last = decimal code ++ space ++ decimal last ++ space

abbrev pub outcome_text : ℕ → ℕ → ℕ → ℕ → List ℕ
outcome_text code last ending counter = last_text code last ++ ending_word ending ++ space ++ decimal counter ++ newline

-- both lines, or the one of a refusal
abbrev pub answer_text : List ℕ → ℕ → Rehearsed → List ℕ
answer_text numbers start r =
    when eqb r.code 0 then outcome_text r.code r.last r.ending r.counter ++ way (panels_of numbers) start r.counter ++ newline else
    decimal r.code ++ characters_of " - - -\n"

-- what is printed of a plan
abbrev pub rehearsal_text : List ℕ → ℕ → List ℕ
rehearsal_text numbers start = answer_text numbers start (rehearsal_of numbers start)

-- a text that is no plan
abbrev pub fault_text : ℕ → List ℕ
fault_text line = characters_of "rehearse: line " ++ decimal line ++ characters_of " is no part of a plan\n"
