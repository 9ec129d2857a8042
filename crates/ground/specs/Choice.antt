-- A decision, written as a table: the first test that holds gives its value.
use Rattle.std.specs.Prelude.{Bool, true, false, ◌&&◌, ◌||◌, not}

infixr 5 when◌then◌else◌
abbrev pub when◌then◌else◌ : {A : Type 0} → Bool → A → A → A
when true then a else b = a
when false then a else b = b

-- a exactly when b
abbrev pub exactly : Bool → Bool → Bool
exactly a b = (a && b) || (not a && not b)

-- a only with b
abbrev pub only : Bool → Bool → Bool
only a b = not a || b
