-- What the denial of a conjunction tells. Assumes nothing.
use mathlib.Core.Bool.{Bool, true, false, not, ◌&&◌}
use lib.Dec.{T, T_not}

pub denied : (a b : Bool) → T (not (a && not b)) → T a → T b
denied true true n t = tt
denied true false n t = n
denied false b n t = absurd t

pub denied_first : (a b : Bool) → T (not (a && b)) → T b → T (not a)
denied_first true b n t = absurd (T_not b n t)
denied_first false b n t = tt

pub denied_l : (a b : Bool) → T (not a) → T (not (a && b))
denied_l true b n = absurd n
denied_l false b n = tt

pub never : (s : Bool) → T (not (s && false))
never true = tt
never false = tt
