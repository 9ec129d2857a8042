-- The sentences on DLI1 and DLI3, read over the whole list of those that a call took account of. The stored history is a
-- summary of that list; what is told here is told of the list. The theorems are in proofs/Whole.
use Rattle.std.specs.Prelude.{ℕ, ◌≡◌, Bool, true, false, ◌&&◌, ◌||◌, not, List, [], ◌∷◌, reverse, T, eqb, leb}
use Rattle.ground.specs.Choice.{when◌then◌else◌}
use Rattle.ground.specs.Lists.{all, any}
use Rattle.event.specs.Kinds.{cfnr, with_number, allowed, forbidden}
use Rattle.notice.specs.declared.Dli1.{Dli1}
use Rattle.notice.specs.declared.History.{History}
use Rattle.notice.specs.Notice.{no_notice, no_number, unmarked, marked, no_history, gives_notice, notice_of, after_dli1, number_shown, after_dli3}

-- "1 DLI3 allowed, 2 DLI3 forbidden"
pub data Mark : Type 0 where
  may mayNot : Mark

abbrev pub flag_of : Mark → ℕ
flag_of may = allowed
flag_of mayNot = forbidden

abbrev pub is_allowed : Mark → Bool
is_allowed may = true
is_allowed mayNot = false

abbrev pub is_forbidden : Mark → Bool
is_forbidden m = not (is_allowed m)

-- a DLI1, or a DLI3 with its mark and its number, 0 if absent
pub data Told : Type 0 where
  dli1 : Dli1 → Told
  dli3 : Mark → ℕ → Told

-- The lists below have the latest first: in `t ∷ l`, t came after all of l.
unfoldable pub options_of : List Told → List ℕ
options_of [] = []
options_of (dli1 d ∷ l) = d.option ∷ options_of l
options_of (dli3 m n ∷ l) = options_of l

unfoldable pub marks_of : List Told → List Mark
marks_of [] = []
marks_of (dli1 d ∷ l) = marks_of l
marks_of (dli3 m n ∷ l) = m ∷ marks_of l

abbrev pub is_dli1 : Told → Bool
is_dli1 (dli1 d) = true
is_dli1 (dli3 m n) = false

-- the call has had a DLI1
abbrev pub diverted : List Told → Bool
diverted l = any is_dli1 l

-- a list that a call takes account of: "In CDO Idle a DLI3 .. is passed over", so each has a DLI1 before it
unfoldable pub counted : List Told → Bool
counted [] = true
counted (dli1 d ∷ l) = counted l
counted (dli3 m n ∷ l) = diverted l && counted l

-- "Options: 0 no notification, 1 without number, 2 with number"
abbrev pub options_ok : List Told → Bool
options_ok l = all (λ o. leb o with_number) (options_of l)

-- the last nominated number
unfoldable pub last_nominated : List Told → ℕ
last_nominated [] = no_number
last_nominated (dli1 d ∷ l) = d.number
last_nominated (dli3 m n ∷ l) = last_nominated l

-- "every option so far is 2, every DLI3 so far is allowed and no number has been shown": this DLI3's mark counts too; `before`
-- is that one was shown since the last cfnr DLI1
abbrev pub all_clear : List Told → Mark → Bool → Bool
all_clear l m before = all (eqb with_number) (options_of l) && all is_allowed (m ∷ marks_of l) && not before

-- Some DLI3 since the last cfnr DLI1 of the list showed a number. H.450.3, 9.1: "no previous notification of a diverted-to
-- number has been given to the calling user unless, since then, a divertingLegInformation1 invoke APDU with value cfnr in
-- element diversionReason has been received."
unfoldable pub shown_since : List Told → Bool
shown_since [] = false
shown_since (dli1 d ∷ l) = when eqb d.reason cfnr then false else shown_since l
shown_since (dli3 m n ∷ l) = shown_since l || all_clear l m (shown_since l)

-- a DLI3 with this mark, after the list, shows a number
abbrev pub shows : List Told → Mark → Bool
shows l m = all_clear l m (shown_since l)

-- "its number, or the last nominated one if absent"
abbrev pub number_for : List Told → ℕ → ℕ
number_for l number = when eqb number no_number then last_nominated l else number

abbrev pub not_zero : ℕ → Bool
not_zero n = not (eqb n 0)

-- "The first of a call gives a notice unless its option is 0. A later one gives a notice exactly if its reason is cfnr
-- and no option so far is 0.": this DLI1's option counts too
abbrev pub notices : List Told → Dli1 → Bool
notices l d =
    when diverted l then eqb d.reason cfnr && all not_zero (d.option ∷ options_of l) else
    not_zero d.option

-- the history that the list leaves
unfoldable pub history_of : List Told → History
history_of [] = no_history
history_of (dli1 d ∷ l) = after_dli1 (history_of l) d
history_of (dli3 m n ∷ l) = after_dli3 (history_of l) (flag_of m)

-- the same as it is stored, in the order of arrival
unfoldable pub history_from : History → List Told → History
history_from h [] = h
history_from h (dli1 d ∷ later) = history_from (after_dli1 h d) later
history_from h (dli3 m n ∷ later) = history_from (after_dli3 h (flag_of m)) later

-- a smallest of some numbers
pub record Least (n : ℕ) (numbers : List ℕ) : Type 0 where
  pub among : T (any (eqb n) numbers)
  pub below : T (all (leb n) numbers)

-- the history is a summary of the list
pub record Summary (l : List Told) (h : History) : Type 0 where
  -- "It is all 0 before the first DLI1"
  pub unused : T (not (diverted l)) → h ≡ no_history
  pub seen_is : h.seen ≡ when diverted l then marked else unmarked
  pub strictest_is : T (diverted l) → Least h.strictest (options_of l)
  pub forbidden_is : h.forbidden ≡ when any is_forbidden (marks_of l) then marked else unmarked
  pub shown_is : h.shown ≡ when shown_since l then marked else unmarked
  pub nominated_is : h.nominated ≡ last_nominated l

-- A DLI3 shows its number, or the last nominated one if absent, exactly if the list and its own mark say so. The list with
-- this DLI3 is one that a call takes account of.
abbrev pub ShowsByList : Type 0
ShowsByList =
    (l : List Told) (m : Mark) (number : ℕ)
    → T (counted (dli3 m number ∷ l))
    → T (options_ok l)
    → number_shown (history_of l) (flag_of m) number ≡ when shows l m then number_for l number else no_number

-- so the answer has a number exactly then, since a nominated number is not 0
abbrev pub ShowsExactly : Type 0
ShowsExactly =
    (l : List Told) (m : Mark) (number : ℕ)
    → T (counted (dli3 m number ∷ l))
    → T (options_ok l)
    → T (not_zero (last_nominated l))
    → not (eqb (number_shown (history_of l) (flag_of m) number) no_number) ≡ shows l m

-- A DLI1 gives a notice exactly if the list and its own reason and option say so, and the notice is its reason.
abbrev pub NoticesByList : Type 0
NoticesByList =
    (l : List Told) (d : Dli1)
    → (gives_notice (history_of l) d ≡ notices l d) × (notice_of (history_of l) d ≡ when notices l d then d.reason else no_notice)

-- so the answer has a notice exactly then, since a reason is 0 to 3
abbrev pub NoticesExactly : Type 0
NoticesExactly =
    (l : List Told) (d : Dli1)
    → T (leb d.reason cfnr)
    → not (eqb (notice_of (history_of l) d) no_notice) ≡ notices l d

abbrev pub Summarises : Type 0
Summarises = (l : List Told) → T (counted l) → T (options_ok l) → Summary l (history_of l)

-- what is stored one after the other, in the order of arrival, is the history of the list
abbrev pub StoredInOrder : Type 0
StoredInOrder = (arrivals : List Told) → history_from no_history arrivals ≡ history_of (reverse arrivals)
