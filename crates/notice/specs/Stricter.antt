-- Demand 3, one call's history: two runs of the same call, the second of them stricter. Each relation builds the stricter value
-- from the other, so that what they share is the same by construction.
use Rattle.std.specs.Prelude.{ℕ, ◌≤◌, ◌≡◌}
use Rattle.ground.specs.Choice.{when◌then◌else◌}
use Rattle.event.specs.Kinds.{with_number, allowed, forbidden}
use Rattle.notice.specs.declared.Dli1.{Dli1}
use Rattle.notice.specs.declared.History.{History}
use Rattle.notice.specs.Notice.{unmarked, seen}

-- "The stricter run shows a notice or a number only where the other does, the same one."
pub data ShownOnlyWhere (none : ℕ) : ℕ → ℕ → Type 0 where
  hidden : {other : ℕ} → ShownOnlyWhere none other none
  agreed : {other : ℕ} → ShownOnlyWhere none other other

-- "options .. become stricter": "Options: 0 .. 1 .. 2 ..; a smaller one is stricter"
pub data StricterDli1 : Dli1 → Dli1 → Type 0 where
  lowered : (d : Dli1) (option : ℕ) → option ≤ d.option → d.option ≤ with_number
      → StricterDli1 d (record { reason = d.reason; option = option; number = d.number })

-- "presentation marks .. turn from allowed to forbidden"
pub data StricterFlag : ℕ → ℕ → Type 0 where
  kept : {flag : ℕ} → StricterFlag flag flag
  forbade : StricterFlag allowed forbidden

-- the strictest option so far, where it is one; 2, "with number", before the first DLI1
abbrev pub so_far : History → ℕ → ℕ
so_far h strictest = when seen h then strictest else with_number

-- "option 0 to 2"; "It is all 0 before the first DLI1"
abbrev pub highest : History → ℕ
highest h = when seen h then with_number else 0

-- a history with another strictest option and other marks
abbrev pub restricted : History → ℕ → ℕ → ℕ → History
restricted h strictest forbidden shown = record {
  seen = h.seen;
  strictest = strictest;
  forbidden = forbidden;
  shown = shown;
  nominated = h.nominated;
}

-- The strictest option is at most the other's; the forbidden mark is set where the other's is, the shown mark only where the
-- other's is. Where the shown marks differ, the stricter run is past showing a number in this call: its strictest option is
-- below 2, or its forbidden mark is set.
pub data StricterHistory : History → History → Type 0 where
  tightened : (h : History) (strictest forbidden shown : ℕ) → strictest ≤ h.strictest → h.strictest ≤ highest h
      → (forbidden ≡ unmarked → h.forbidden ≡ unmarked) → (h.shown ≡ unmarked → shown ≡ unmarked)
      → (so_far h strictest ≡ with_number → forbidden ≡ unmarked → shown ≡ unmarked → h.shown ≡ unmarked)
      → StricterHistory h (restricted h strictest forbidden shown)
