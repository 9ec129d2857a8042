-- "The request takes the first identifier from the next one on that no open request has; the one after it is next". Document 02,
-- Three: "From now on the number after 65,535 is 1".
use Rattle.std.specs.Prelude.{ℕ, zero, suc, ◌+◌, ◌%◌, Bool, true, not, ◌&&◌, List, [], ◌∷◌, nat_eq}
use Rattle.ground.specs.Choice.{when◌then◌else◌}
use Rattle.ground.specs.Lists.{any}

-- document 02, Three: "the number after 65,535 is 1": a sum on 16 bits, and 1 where it gives 0, which is no identifier of ours
abbrev pub after : ℕ → ℕ
after identifier =
    let sum = (identifier + 1) % 65536 in
    when nat_eq sum 0 then 1 else sum

-- some open request has it
abbrev pub taken : List ℕ → ℕ → Bool
taken held identifier = any (nat_eq identifier) held

-- "no two Requested records share an identifier"; document 02, Seven: "so "no two open requests share" covers both tables"
unfoldable pub distinct : List ℕ → Bool
distinct [] = true
distinct (identifier ∷ rest) = not (taken rest identifier) && distinct rest

-- the first of so many candidates from one on that no open request has; where all are taken, the one after them
unfoldable pub first_free : ℕ → List ℕ → ℕ → ℕ
first_free zero held candidate = candidate
first_free (suc more) held candidate =
    let later = first_free more held (after candidate) in
    when taken held candidate then later else candidate

-- at most 68 requests are open, 64 of calls and one of each remote sort, so one of 69 candidates is free
abbrev pub most_open : ℕ
most_open = 68

abbrev pub candidates : ℕ
candidates = suc most_open

abbrev pub drawn : List ℕ → ℕ → ℕ
drawn held next = first_free candidates held next
