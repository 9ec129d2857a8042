-- Unused DLI1s as words: fields that lie side by side in memory, as one number.
use Rattle.std.specs.Prelude.{ℕ, ◌+◌, ◌*◌}
use Rattle.notice.specs.declared.Dli1.{Dli1}

-- its three fields, which lie side by side in memory, as one number: 0 exactly where it is unused
abbrev pub dli1_word : Dli1 → ℕ
dli1_word d = d.reason + 256 * d.option + 65536 * d.number

-- two side by side: 0 exactly where both are unused
abbrev pub pair_word : Dli1 → Dli1 → ℕ
pair_word a b = a.reason + 256 * a.option + 65536 * a.number + 4294967296 * b.reason + 1099511627776 * b.option + 281474976710656 * b.number
