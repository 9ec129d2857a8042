-- Text in a buffer.
use Rattle.std.specs.Prelude.{ℕ, ◌+◌, ◌≡◌, List, ◌++◌, length, take, drop}

-- a buffer with some bytes of it replaced by others, from a place on
abbrev pub wrote : List ℕ → ℕ → List ℕ → List ℕ
wrote bytes at old = take at old ++ bytes ++ drop (at + length bytes) old

-- the bytes stand in the buffer from a place on, all else in it is as it was, and the result is the place behind them
pub record Written (bytes : List ℕ) (at : ℕ) (old new : List ℕ) (r : ℕ) : Type 0 where
  pub text : new ≡ wrote bytes at old
  pub next : r ≡ at + length bytes
