-- Numbers of several bytes, big-endian.
use Rattle.std.specs.Prelude.{ℕ, ◌+◌, ◌*◌, List, get_or}

abbrev pub byte_at : List ℕ → ℕ → ℕ
byte_at bytes i = get_or bytes i 0

-- two bytes, the higher first
abbrev pub pair : ℕ → ℕ → ℕ
pair high low = high * 256 + low

abbrev pub word_at : List ℕ → ℕ → ℕ
word_at bytes i = pair (byte_at bytes i) (byte_at bytes (i + 1))

-- four numbers of two bytes, the highest first
abbrev pub four : ℕ → ℕ → ℕ → ℕ → ℕ
four a b c d = a * 281474976710656 + b * 4294967296 + c * 65536 + d

abbrev pub long_at : List ℕ → ℕ → ℕ
long_at bytes i = four (word_at bytes i) (word_at bytes (i + 2)) (word_at bytes (i + 4)) (word_at bytes (i + 6))
