-- "Marked P: the nine lines above; counter 14 and limit 15 diverts with 15; counter 15 is 7; 65 records is 1."
use Rattle.std.specs.Prelude.{ℕ, List, [], ◌∷◌, ◌++◌, map, replicate}
use Rattle.event.specs.declared.Event.{Event}
use Rattle.event.specs.Kinds.{unknown, cfu, no_notification, with_number, allowed, CONNECT, OpenOutgoing, OpenIncoming, OpenWithDli2, DivertCall, ReroutingResult, Clock, ReroutingInvoke, OutgoingMessage}
use Rattle.call.specs.Record.{free_call}
use Rattle.notice.specs.Notice.{marked}
use Rattle.station.specs.Station.{fresh_station}
use Rattle.digits.specs.Digits.{characters_of}
use Rattle.printout.specs.Line.{printed}

-- an event by its kind, call, leg, message, reason, option, counter, flag; identifier, first, second, third number; time
abbrev pub event : ℕ → ℕ → ℕ → ℕ → ℕ → ℕ → ℕ → ℕ → ℕ → ℕ → ℕ → ℕ → ℕ → Event
event kind call leg message reason option counter flag identifier first second third time = record {
  kind = kind;
  call = call;
  leg = leg;
  message = message;
  reason = reason;
  option = option;
  counter = counter;
  flag = flag;
  identifier = identifier;
  first = first;
  second = second;
  third = third;
  time = time;
}

-- "Input: kind 1 (party 101, time 1); 12 (call 0, leg 1, cfu, option 2, counter 1, identifier 9, destination 207, time 2);
-- 14 (call 0, leg 1, CONNECT, flag 1, time 3); 2 (102, time 4); 6 (call 1, cfu, option 0, destination 300, time 1000);
-- 10 (10999); 10 (11000); 6 as before (11001); 7 (call 1, identifier 65535, 11002)." Document 02, Three: "line 7 has identifier 1".
abbrev pub nine_events : List Event
nine_events =
    event OpenOutgoing 0 0 0 0 0 0 0 0 101 0 0 1
    ∷ event ReroutingInvoke 0 1 0 cfu with_number 1 0 9 0 207 0 2
    ∷ event OutgoingMessage 0 1 CONNECT 0 0 0 allowed 0 0 0 0 3
    ∷ event OpenIncoming 0 0 0 0 0 0 0 0 102 0 0 4
    ∷ event DivertCall 1 0 0 cfu no_notification 0 0 0 0 300 0 1000
    ∷ event Clock 0 0 0 0 0 0 0 0 0 0 0 10999
    ∷ event Clock 0 0 0 0 0 0 0 0 0 0 0 11000
    ∷ event DivertCall 1 0 0 cfu no_notification 0 0 0 0 300 0 11001
    ∷ event ReroutingResult 1 0 0 0 0 0 0 65535 0 0 0 11002
    ∷ []

-- an incoming call with a counter, then its diversion
abbrev pub diverted_at : ℕ → List Event
diverted_at counter = event OpenWithDli2 0 0 0 unknown 0 counter 0 0 101 102 0 1 ∷ event DivertCall 0 0 0 cfu no_notification 0 0 0 0 300 0 2 ∷ []

-- the lines that a fresh station of limit 15 prints on so many free records
abbrev pub lines_on : ℕ → List Event → List (List ℕ)
lines_on records events = printed 0 (fresh_station 15 marked marked) (replicate records free_call) events

-- the one list of the cases marked P
abbrev pub cases_p : List (List ℕ)
cases_p = lines_on 64 nine_events ++ lines_on 64 (diverted_at 14) ++ lines_on 64 (diverted_at 15) ++ lines_on 65 (diverted_at 14)

abbrev pub expected_p : List (List ℕ)
expected_p =
    map characters_of
    ("0 0 0 - - - - -\n"
    ∷ "1 0 0 1 - 9 1 R1X1S1\n"
    ∷ "2 0 0 - 207 - - -\n"
    ∷ "3 0 1 - - - - -\n"
    ∷ "4 0 1 - - 65535 1 I1\n"
    ∷ "5 0 - - - - - -\n"
    ∷ "6 0 1 - - 65535 - -\n"
    ∷ "7 0 1 - - 1 1 I1\n"
    ∷ "8 6 - - - - - -\n"
    -- counter 14 and limit 15 diverts with 15
    ∷ "0 0 0 - - - - -\n"
    ∷ "1 0 0 - - 65535 15 I1\n"
    -- counter 15 is 7
    ∷ "0 0 0 - - - - -\n"
    ∷ "1 7 - - - - - -\n"
    -- 65 records is 1
    ∷ "0 1 - - - - - -\n"
    ∷ "1 1 - - - - - -\n"
    ∷ [])
