-- A contract that is one equation with a definition determines its outcome. Assumes nothing.
use mathlib.Core.Path.{◌≡◌, sym, ◌∙◌}

-- two outcomes that such a contract allows, for one input, are equal
pub determined : {A : Type 0} (defined one other : A) → one ≡ defined → other ≡ defined → one ≡ other
determined defined one other p q = p ∙ sym q
