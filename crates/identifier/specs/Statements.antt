-- What the number after an identifier, the draw of one and the test `distinct` amount to, for any list of identifiers of open
-- requests. The theorems are in proofs/After, proofs/Draw and proofs/Reading; proofs/Joined and proofs/Gathered have the laws for
-- a table.
use Rattle.std.specs.Prelude.{◌≡◌, ℕ, zero, suc, ◌+◌, ◌<◌, ◌≤◌, true, T, ◌↔◌, List, length, ◌≢◌, slice_index}
use Rattle.identifier.specs.Identifier.{after, taken, distinct, most_open, drawn}

-- the identifier that lies so many steps from one on, round after 65,535
unfoldable pub candidate : ℕ → ℕ → ℕ
candidate next zero = next
candidate next (suc steps) = candidate (after next) steps

-- document 02, Three: "From now on the number after 65,535 is 1"; each smaller one is followed by the next number
pub record Follows : Type 0 where
  pub last : after 65535 ≡ 1
  pub others : (identifier : ℕ) → identifier < 65535 → after identifier ≡ identifier + 1

-- so none of them is 0
abbrev pub AfterThere : Type 0
AfterThere = (identifier : ℕ) → after identifier ≢ 0

-- 65,535 candidates in a row are all different, and then the first comes again
abbrev pub CandidatesApart : Type 0
CandidatesApart = (next i j : ℕ) → i < 65535 → j < 65535 → candidate next i ≡ candidate next j → i ≡ j

abbrev pub ComesAgain : Type 0
ComesAgain = (next : ℕ) → (next ≢ 0) → next < 65536 → candidate next 65535 ≡ next

-- "the first identifier from the next one on that no open request has": all that lie before it are taken, and it is not
pub record First (held : List ℕ) (next identifier : ℕ) : Type 0 where
  pub steps : ℕ
  pub is : identifier ≡ candidate next steps
  pub before : (i : ℕ) → i < steps → T (taken held (candidate next i))
  pub free : T (taken held identifier) → ⊥

-- where at most 68 requests are open, no open request has the identifier drawn
abbrev pub Free : Type 0
Free = (held : List ℕ) (next : ℕ) → length held ≤ most_open → T (taken held (drawn held next)) → ⊥

-- it is the first such from the next on, and the only one that is so
abbrev pub DrawsFirst : Type 0
DrawsFirst = (held : List ℕ) (next : ℕ) → length held ≤ most_open → First held next (drawn held next)

abbrev pub OnlyFirst : Type 0
OnlyFirst = (held : List ℕ) (next identifier : ℕ) → length held ≤ most_open → First held next identifier → identifier ≡ drawn held next

-- an identifier has 16 bits: drawn from one that has, and the one after any
abbrev pub DrawsSmall : Type 0
DrawsSmall = (held : List ℕ) (next : ℕ) → next < 65536 → drawn held next < 65536

abbrev pub AfterSmall : Type 0
AfterSmall = (identifier : ℕ) → after identifier < 65536

-- drawn from a next one that is not 0 it is not 0, whatever is open
abbrev pub DrawsThere : Type 0
DrawsThere = (held : List ℕ) (next : ℕ) → (next ≢ 0) → drawn held next ≢ 0

-- "no two open requests share", place by place
abbrev pub Apart : List ℕ → Type 0
Apart held = (i j : ℕ) → i < length held → j < length held → slice_index held i ≡ slice_index held j → i ≡ j

abbrev pub DistinctReads : Type 0
DistinctReads = (held : List ℕ) → distinct held ≡ true ↔ Apart held
