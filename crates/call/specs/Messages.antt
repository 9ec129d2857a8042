-- The messages of an answer with leg and arguments, and what an answer holds besides.
use Rattle.std.specs.Prelude.{ℕ}
use Rattle.notice.specs.Notice.{no_notice, no_number}
use Rattle.call.specs.declared.Call.{Call}
use Rattle.call.specs.declared.Message.{Message}
use Rattle.call.specs.declared.Sent.{Sent}
use Rattle.call.specs.declared.Effect.{Effect}

-- no identifier: 0 is one, of an invoke that is received, so none is the number past the last
abbrev pub no_identifier : ℕ
no_identifier = 65536

-- no counter: a counter that is sent is at least 1
abbrev pub no_counter : ℕ
no_counter = 0

-- a message that isn't sent has no letter
abbrev pub no_letter : ℕ
no_letter = 0

-- "Letters": their ASCII numbers
-- "A ALERTING"
abbrev pub letter_a : ℕ
letter_a = 65

-- "C CONNECT"
abbrev pub letter_c : ℕ
letter_c = 67

-- "D CONNECT with DLI3"
abbrev pub letter_d : ℕ
letter_d = 68

-- "I invoke"
abbrev pub letter_i : ℕ
letter_i = 73

-- "R result"
abbrev pub letter_r : ℕ
letter_r = 82

-- "E error"
abbrev pub letter_e : ℕ
letter_e = 69

-- "X RELEASE COMPLETE"
abbrev pub letter_x : ℕ
letter_x = 88

-- "S SETUP"
abbrev pub letter_s : ℕ
letter_s = 83

-- "F leg failed"
abbrev pub letter_f : ℕ
letter_f = 70

abbrev pub no_message : Message
no_message = record {
  letter = no_letter;
  leg = 0;
  reason = 0;
  option = 0;
  counter = 0;
  flag = 0;
  identifier = 0;
  destination = 0;
  diverting = 0;
  original = 0;
  number = 0;
}

-- a message that has a letter and a leg alone
abbrev pub bare : ℕ → ℕ → Message
bare letter leg = record {
  letter = letter;
  leg = leg;
  reason = 0;
  option = 0;
  counter = 0;
  flag = 0;
  identifier = 0;
  destination = 0;
  diverting = 0;
  original = 0;
  number = 0;
}

abbrev pub alerting_on : ℕ → Message
alerting_on leg = bare letter_a leg

abbrev pub connect_on : ℕ → Message
connect_on leg = bare letter_c leg

abbrev pub release_on : ℕ → Message
release_on leg = bare letter_x leg

abbrev pub leg_failed_on : ℕ → Message
leg_failed_on leg = bare letter_f leg

-- a CONNECT with DLI3: its flag and number
abbrev pub connect_with_dli3 : ℕ → ℕ → ℕ → Message
connect_with_dli3 leg flag number = record {
  letter = letter_d;
  leg = leg;
  reason = 0;
  option = 0;
  counter = 0;
  flag = flag;
  identifier = 0;
  destination = 0;
  diverting = 0;
  original = 0;
  number = number;
}

-- "Results and errors echo the identifier."
abbrev pub echo_on : ℕ → ℕ → ℕ → Message
echo_on letter leg identifier = record {
  letter = letter;
  leg = leg;
  reason = 0;
  option = 0;
  counter = 0;
  flag = 0;
  identifier = identifier;
  destination = 0;
  diverting = 0;
  original = 0;
  number = 0;
}

abbrev pub result_on : ℕ → ℕ → Message
result_on leg identifier = echo_on letter_r leg identifier

abbrev pub error_on : ℕ → ℕ → Message
error_on leg identifier = echo_on letter_e leg identifier

abbrev pub nothing : Sent
nothing = record { first = no_message; second = no_message; third = no_message }

abbrev pub one : Message → Sent
one a = record { first = a; second = no_message; third = no_message }

abbrev pub two : Message → Message → Sent
two a b = record { first = a; second = b; third = no_message }

abbrev pub three : Message → Message → Message → Sent
three a b c = record { first = a; second = b; third = c }

-- an effect whose answer shows the caller nothing and has neither identifier nor counter
abbrev pub sending : Call → Sent → Effect
sending c sent = record {
  call = c;
  sent = sent;
  notice = no_notice;
  number = no_number;
  identifier = no_identifier;
  counter = no_counter;
}

abbrev pub silent : Call → Effect
silent c = sending c nothing
