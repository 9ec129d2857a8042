-- Document 02, Six: "Each waiting DLI1 is kept and all are handed to the own CDO in order .. Up to 15 may wait, the first cfnr one included."
use Rattle.std.specs.Prelude.{ℕ, ◌+◌, Bool, List, [], ◌∷◌, ltb, length, take, set, replicate}
use Rattle.notice.specs.declared.Dli1.{Dli1}
use Rattle.notice.specs.declared.History.{History}
use Rattle.notice.specs.declared.Noticed.{Noticed}
use Rattle.notice.specs.Notice.{no_notice, take_dli1}
use Rattle.waits.specs.declared.Waits.{Waits}

abbrev pub no_dli1 : Dli1
no_dli1 = record { reason = 0; option = 0; number = 0 }

-- none waits
abbrev pub no_waits : Waits
no_waits = record { first = no_dli1; count = 0; later = replicate 14 no_dli1 }

-- the first waits, alone
abbrev pub waits_for : Dli1 → Waits
waits_for d = record { first = d; count = 0; later = replicate 14 no_dli1 }

-- those behind the first, in order
abbrev pub behind : Waits → List Dli1
behind w = take w.count w.later

-- all that wait, in order, where one does: in Invoked
abbrev pub dli1s : Waits → List Dli1
dli1s w = w.first ∷ behind w

-- one more waits, the last
abbrev pub waits_with : Waits → Dli1 → Waits
waits_with w d = record { first = w.first; count = w.count + 1; later = set w.later w.count d }

-- "Up to 15 may wait, the first cfnr one included"
abbrev pub most_wait : ℕ
most_wait = 15

-- fewer than 15 wait
unfoldable pub room : Waits → Bool
room w = ltb (length (dli1s w)) most_wait

-- the number of the last one, where d came before the list
unfoldable pub last_after : Dli1 → List Dli1 → ℕ
last_after d [] = d.number
last_after d (e ∷ l) = last_after e l

-- leg 2's party is the last waiting number
abbrev pub last_number : Waits → ℕ
last_number w = last_after w.first (behind w)

-- the history after a list of them, in order
unfoldable pub after_all : History → List Dli1 → History
after_all h [] = h
after_all h (d ∷ later) = after_all (take_dli1 h d).history later

-- "all are handed to the own CDO in order"; the notice is the first one's: no later one gives any (specs/Laws, LaterSilent)
unfoldable pub take_all : History → List Dli1 → Noticed
take_all h [] = record { notice = no_notice; history = h }
take_all h (d ∷ later) = record { notice = (take_dli1 h d).notice; history = after_all (take_dli1 h d).history later }
