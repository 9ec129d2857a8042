-- An effect whose messages are held as two words each: the fields that lie side by side in memory, as one number.
use Rattle.std.specs.Prelude.{ℕ, ◌+◌, ◌*◌, ◌/◌, ◌%◌}
use Rattle.call.specs.declared.Message.{Message}
use Rattle.call.specs.declared.Effect.{Effect}
use Rattle.packed.specs.declared.Words.{Words}
use Rattle.packed.specs.declared.Packed.{Packed}

-- the letter, the leg and the arguments up to the identifier
abbrev pub head_word : Message → ℕ
head_word m =
    m.letter + 256 * m.leg + 65536 * m.reason + 16777216 * m.option + 4294967296 * m.counter + 1099511627776 * m.flag + 281474976710656 * m.identifier

-- the parties and the number
abbrev pub rest_word : Message → ℕ
rest_word m = m.destination + 65536 * m.diverting + 4294967296 * m.original + 281474976710656 * m.number

abbrev pub words_of : Message → Words
words_of m = record { head = head_word m; rest = rest_word m }

-- the message of two words
abbrev pub message_of : Words → Message
message_of w = record {
  letter = w.head % 256;
  leg = w.head / 256 % 256;
  reason = w.head / 65536 % 256;
  option = w.head / 16777216 % 256;
  counter = w.head / 4294967296 % 256;
  flag = w.head / 1099511627776 % 256;
  identifier = w.head / 281474976710656;
  destination = w.rest % 65536;
  diverting = w.rest / 65536 % 65536;
  original = w.rest / 4294967296 % 65536;
  number = w.rest / 281474976710656;
}

-- an effect, packed
abbrev pub packed_of : Effect → Packed
packed_of x = record {
  call = x.call;
  first = words_of x.sent.first;
  second = words_of x.sent.second;
  third = words_of x.sent.third;
  notice = x.notice;
  number = x.number;
  identifier = x.identifier;
  counter = x.counter;
}

-- the effect that is packed so
abbrev pub effect_of : Packed → Effect
effect_of p = record {
  call = p.call;
  sent = record { first = message_of p.first; second = message_of p.second; third = message_of p.third };
  notice = p.notice;
  number = p.number;
  identifier = p.identifier;
  counter = p.counter;
}
