-- Text in a lent buffer, piece after piece.
use Rattle.std.specs.Prelude.{ℕ, ◌+◌, ◌≤◌, ◌≡◌, List, length}
use Rattle.digits.specs.declared.Text.{Text}
use Rattle.digits.specs.Written.{Written}

-- so many bytes more fit
abbrev pub HasRoom : ℕ → Text → Type 0
HasRoom n t = t.at + n ≤ length t.out.now

-- the bytes, so many at most, stand behind what was written, within the same buffer
pub record Wrote (most : ℕ) (bytes : List ℕ) (old new : Text) : Type 0 where
  pub written : Written bytes old.at old.out.now new.out.now new.at
  pub upper_bound : length bytes ≤ most
  pub within : new.at ≤ length new.out.now
  pub same_length : length new.out.now ≡ length old.out.now
  pub same_reference : new.out.ghost_name ≡ old.out.ghost_name
