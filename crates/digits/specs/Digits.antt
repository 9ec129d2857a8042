-- Characters and decimal numbers.
use Rattle.std.specs.Prelude.{ℕ, zero, suc, ◌+◌, ◌/◌, ◌%◌, List, [], ◌∷◌, ◌++◌, ltb}
use Prim.Native.String as text
use Prim.Native.String.{String}
use Prim.Native.Char.{code}
use Rattle.ground.specs.Choice.{when◌then◌else◌}

-- characters are their ASCII numbers
abbrev pub digit : ℕ → ℕ
digit n = 48 + n

abbrev pub space : List ℕ
space = 32 ∷ []

abbrev pub newline : List ℕ
newline = 10 ∷ []

-- the last so many decimal digits that a number needs
unfoldable pub digits : ℕ → ℕ → List ℕ
digits zero n = []
digits (suc more) n =
    let higher = digits more (n / 10) in
    when ltb n 10 then digit n ∷ [] else higher ++ (digit (n % 10) ∷ [])

-- a number in decimal: 64 bits want at most 20 digits
abbrev pub decimal : ℕ → List ℕ
decimal n = digits 20 n

-- the characters of a text
unfoldable pub characters_of : String → List ℕ
characters_of text.[] = []
characters_of (text.◌∷◌ c rest) = code c ∷ characters_of rest
