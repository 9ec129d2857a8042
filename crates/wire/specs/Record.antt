-- "24 bytes each, no header, big-endian: kind, call, leg, message, reason, option, counter, flag (one byte each);
-- identifier, first, second and third number (two each); time (eight)."
use Rattle.std.specs.Prelude.{ℕ, zero, suc, ◌+◌, List, [], ◌∷◌}
use Rattle.ground.specs.Bytes.{byte_at, word_at, long_at}
use Rattle.event.specs.declared.Event.{Event}

unfoldable pub event_at : List ℕ → ℕ → Event
event_at bytes i = record {
  kind = byte_at bytes i;
  call = byte_at bytes (i + 1);
  leg = byte_at bytes (i + 2);
  message = byte_at bytes (i + 3);
  reason = byte_at bytes (i + 4);
  option = byte_at bytes (i + 5);
  counter = byte_at bytes (i + 6);
  flag = byte_at bytes (i + 7);
  identifier = word_at bytes (i + 8);
  first = word_at bytes (i + 10);
  second = word_at bytes (i + 12);
  third = word_at bytes (i + 14);
  time = long_at bytes (i + 16);
}

-- the n events whose bytes stand in a row from place i on
unfoldable pub events_from : List ℕ → ℕ → ℕ → List Event
events_from bytes i zero = []
events_from bytes i (suc n) = event_at bytes i ∷ events_from bytes (i + 24) n
