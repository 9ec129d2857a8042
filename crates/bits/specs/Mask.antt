-- A list's mask, the number whose binary digits say which elements pass.
use Rattle.std.specs.Prelude.{ℕ, ◌+◌, ◌*◌, ◌^◌, Bool, List, [], ◌∷◌}
use Rattle.ground.specs.Choice.{when◌then◌else◌}

abbrev pub digit : Bool → ℕ
digit b = when b then 1 else 0

unfoldable pub mask_of : {A : Type 0} → (A → Bool) → List A → ℕ
mask_of p [] = 0
mask_of p (x ∷ xs) = digit (p x) + 2 * mask_of p xs

abbrev pub weigh : Bool → ℕ → ℕ
weigh b i = when b then 2 ^ i else 0
