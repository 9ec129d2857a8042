-- What is told of the waiting DLI1s: each stays in its place, only the first gives a notice, and stricter ones show no more. The theorems are in
-- proofs/Laws and Counted.
use Rattle.std.specs.Prelude.{ℕ, min, ◌<◌, ◌≡◌, T, eqb, length}
use mathlib.Core.List.{List, [], ◌∷◌, ◌++◌, map, Forall₂}
use Rattle.ground.specs.Lists.{all}
use Rattle.notice.specs.declared.Dli1.{Dli1}
use Rattle.notice.specs.declared.History.{History}
use Rattle.notice.specs.Notice.{no_notice, unmarked, marked, strictest_with, notice_of, after_dli1}
use Rattle.notice.specs.Stricter.{ShownOnlyWhere, StricterDli1, StricterHistory}
use Rattle.waits.specs.declared.Waits.{Waits}
use Rattle.waits.specs.Waits.{dli1s, behind, waits_with, room, last_number, take_all}
use Rattle.waits.specs.Soundness.{waits_hold}

-- one more waits behind all the others, none of which moves
abbrev pub Appends : Type 0
Appends = (w : Waits) (d : Dli1) → w.count < length w.later → dli1s (waits_with w d) ≡ dli1s w ++ (d ∷ [])

-- and its number is leg 2's party
abbrev pub NumbersLast : Type 0
NumbersLast = (w : Waits) (d : Dli1) → w.count < length w.later → last_number (waits_with w d) ≡ d.number

-- the notices that a list of them gives, each after those before it
unfoldable pub notices_of : History → List Dli1 → List ℕ
notices_of h [] = []
notices_of h (d ∷ l) = notice_of h d ∷ notices_of (after_dli1 h d) l

-- only the first, the cfnr one, can give a notice
abbrev pub LaterSilent : Type 0
LaterSilent = (h : History) (w : Waits) → T (waits_hold w) → T (all (eqb no_notice) (notices_of (after_dli1 h w.first) (behind w)))

-- the last nominated number is leg 2's party
abbrev pub NominatesLast : Type 0
NominatesLast = (h : History) (w : Waits) → (take_all h (dli1s w)).history.nominated ≡ last_number w

-- the strictest of an option and those of a list
unfoldable pub strictest_of : ℕ → List Dli1 → ℕ
strictest_of option [] = option
strictest_of option (d ∷ later) = strictest_of (min option d.option) later

-- all that a later answer can see of the waiting ones: the strictest option and the last number
abbrev pub SumsUp : Type 0
SumsUp = (h : History) (w : Waits) → T (waits_hold w) → (take_all h (dli1s w)).history ≡ record {
  seen = marked;
  strictest = strictest_of (strictest_with h w.first.option) (behind w);
  forbidden = h.forbidden;
  shown = unmarked;
  nominated = last_number w;
}

abbrev pub dli1_number : Dli1 → ℕ
dli1_number d = d.number

abbrev pub dli1_reason : Dli1 → ℕ
dli1_reason d = d.reason

-- "Demand 3 covers their options too": as many, each as strict or stricter, place by place
pub data StricterWaits : Waits → Waits → Type 0 where
  each : (w : Waits) (first : Dli1) (later : List Dli1) → StricterDli1 w.first first → Forall₂ StricterDli1 w.later later
      → StricterWaits w (record { first = first; count = w.count; later = later })

-- handed over to a stricter history, stricter ones leave it stricter
abbrev pub HandsOverStricter : Type 0
HandsOverStricter = (h h' : History) (w w' : Waits) → StricterHistory h h' → StricterWaits w w'
    → StricterHistory (take_all h (dli1s w)).history (take_all h' (dli1s w')).history

-- and show no more
abbrev pub HandsOverNoMore : Type 0
HandsOverNoMore = (h h' : History) (w w' : Waits) → StricterHistory h h' → StricterWaits w w'
    → ShownOnlyWhere no_notice (take_all h (dli1s w)).notice (take_all h' (dli1s w')).notice

-- leg 2's party is the same
abbrev pub PartySame : Type 0
PartySame = (w w' : Waits) → StricterWaits w w' → last_number w' ≡ last_number w

-- only options differ
abbrev pub NumbersSame : Type 0
NumbersSame = (w w' : Waits) → StricterWaits w w' → map dli1_number (dli1s w') ≡ map dli1_number (dli1s w)

abbrev pub ReasonsSame : Type 0
ReasonsSame = (w w' : Waits) → StricterWaits w w' → map dli1_reason (dli1s w') ≡ map dli1_reason (dli1s w)

-- as many wait
abbrev pub CountSame : Type 0
CountSame = (w w' : Waits) → StricterWaits w w' → w'.count ≡ w.count

-- and as many find room
abbrev pub RoomSame : Type 0
RoomSame = (w w' : Waits) → StricterWaits w w' → room w' ≡ room w
