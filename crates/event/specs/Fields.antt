-- An event with one field changed: antt has no record update.
use Rattle.std.specs.Prelude.{ℕ}
use Rattle.event.specs.declared.Event.{Event}

abbrev pub option_is : ℕ → Event → Event
option_is x e = record {
  kind = e.kind;
  call = e.call;
  leg = e.leg;
  message = e.message;
  reason = e.reason;
  option = x;
  counter = e.counter;
  flag = e.flag;
  identifier = e.identifier;
  first = e.first;
  second = e.second;
  third = e.third;
  time = e.time;
}

abbrev pub flag_is : ℕ → Event → Event
flag_is x e = record {
  kind = e.kind;
  call = e.call;
  leg = e.leg;
  message = e.message;
  reason = e.reason;
  option = e.option;
  counter = e.counter;
  flag = x;
  identifier = e.identifier;
  first = e.first;
  second = e.second;
  third = e.third;
  time = e.time;
}

abbrev pub identifier_is : ℕ → Event → Event
identifier_is x e = record {
  kind = e.kind;
  call = e.call;
  leg = e.leg;
  message = e.message;
  reason = e.reason;
  option = e.option;
  counter = e.counter;
  flag = e.flag;
  identifier = x;
  first = e.first;
  second = e.second;
  third = e.third;
  time = e.time;
}
