-- An event's fields that lie side by side as one number, and the event of such numbers.
use Rattle.std.specs.Prelude.{ℕ, ◌+◌, ◌*◌, ◌/◌, ◌%◌}
use Rattle.event.specs.declared.Event.{Event}

abbrev pub head_word : Event → ℕ
head_word e = e.kind + 256 * e.call + 65536 * e.leg + 16777216 * e.message

abbrev pub codes_word : Event → ℕ
codes_word e = e.reason + 256 * e.option + 65536 * e.counter + 16777216 * e.flag

abbrev pub first_word : Event → ℕ
first_word e = e.identifier + 65536 * e.first

abbrev pub second_word : Event → ℕ
second_word e = e.second + 65536 * e.third

abbrev pub event_of : ℕ → ℕ → ℕ → ℕ → ℕ → Event
event_of head codes first second time = record {
  kind = head % 256;
  call = head / 256 % 256;
  leg = head / 65536 % 256;
  message = head / 16777216;
  reason = codes % 256;
  option = codes / 256 % 256;
  counter = codes / 65536 % 256;
  flag = codes / 16777216;
  identifier = first % 65536;
  first = first / 65536;
  second = second % 65536;
  third = second / 65536;
  time = time;
}
