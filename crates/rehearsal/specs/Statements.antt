-- What a rehearsal promises, told of the plan and its n-fold step. The theorems are in proofs/Tonight, proofs/Refusals and
-- proofs/Circles.
use Rattle.std.specs.Prelude.{ℕ, suc, ◌+◌, ◌%◌, ◌≤◌, ◌<◌, ◌≡◌, Bool, ◌&&◌, not, ◌↔◌, ◌⊎◌, List, T, length, get_or}
use Rattle.station.specs.Station.{short_limit}
use Rattle.rehearsal.specs.declared.Panel.{Panel}
use Rattle.rehearsal.specs.declared.Rehearsed.{Rehearsed}
use Rattle.rehearsal.specs.Plan.{no_panel, given, is_busy, is_unattended, panels_of, panel_at, forwards_to, reason_of, next, asks, after, in_plan, plan_ok}
use Rattle.rehearsal.specs.Rehearsal.{rings, ends_busy, at_limit, refusal, rehearsed, rehearsal_of}

-- "a busy panel without cfb ends as busy", if it has no cfu
abbrev pub keeps_busy : Panel → Bool
keeps_busy p = not (given p.cfu) && is_busy p && not (given p.cfb)

-- "else it rings"
abbrev pub keeps_ringing : Panel → Bool
keeps_ringing p = not (given p.cfu) && not (is_busy p) && not (is_unattended p && given p.cfnr)

-- What a panel that is offered a call does, told of its fields: where it forwards to, and by which of the three.
pub record InOrder (p : Panel) : Type 0 where
  -- "Cfu comes first"
  pub cfu_first : T (given p.cfu) → (forwards_to p ≡ p.cfu) × (reason_of p ≡ 1)
  -- "then cfb if busy"; without one it does not forward
  pub then_cfb : T (not (given p.cfu)) → T (is_busy p) → (forwards_to p ≡ p.cfb) × (reason_of p ≡ 2)
  -- "then cfnr if unattended"
  pub then_cfnr : T (not (given p.cfu)) → T (not (is_busy p)) → T (is_unattended p) → (forwards_to p ≡ p.cfnr) × (reason_of p ≡ 3)
  -- "else it rings"
  pub else_none : T (not (given p.cfu)) → T (not (is_busy p)) → T (not (is_unattended p)) → forwards_to p ≡ 0

abbrev pub ForwardsInOrder : Type 0
ForwardsInOrder = (p : Panel) → InOrder p

-- An answer that is right for a plan: each forward is one that the plan asks for, the last panel is the plan's n-fold step from
-- the start, and each ending is given exactly when the page says: "Limit" exactly when one more forward would exceed the limit.
pub record Tonight (allowed : ℕ) (plan : List Panel) (start : ℕ) (r : Rehearsed) : Type 0 where
  pub done : r.code ≡ 0
  pub within : r.counter ≤ allowed
  pub asked : (n : ℕ) → n < r.counter → T (asks plan (after plan start n))
  pub last_is : r.last ≡ after plan start r.counter
  pub ends_as : (r.ending ≡ rings) ⊎ ((r.ending ≡ ends_busy) ⊎ (r.ending ≡ at_limit))
  pub rings_when : (r.ending ≡ rings) ↔ T (keeps_ringing (panel_at plan r.last))
  pub busy_when : (r.ending ≡ ends_busy) ↔ T (keeps_busy (panel_at plan r.last))
  pub limit_when : (r.ending ≡ at_limit) ↔ (T (asks plan r.last) × (allowed < r.counter + 1))

abbrev pub RightTonight : Type 0
RightTonight = (allowed : ℕ) (plan : List Panel) (start : ℕ) → Tonight allowed plan start (rehearsed allowed plan start)

-- and there is no other
abbrev pub OnlyTonight : Type 0
OnlyTonight =
    (allowed : ℕ) (plan : List Panel) (start : ℕ) (r : Rehearsed)
    → Tonight allowed plan start r
    → r ≡ rehearsed allowed plan start

-- the answer that a host is given for a plan is the right one, with the short form's limit
abbrev pub AnswersTonight : Type 0
AnswersTonight =
    (numbers : List ℕ) (start : ℕ)
    → ((rehearsal_of numbers start).code ≡ 3 → ⊥)
    → Tonight short_limit (panels_of numbers) start (rehearsal_of numbers start)

-- a panel of a plan of so many that must not be: a destination outside, "reached or not", or a mark above 1
pub data Faulty (panels : ℕ) (p : Panel) : Type 0 where
  cfu_outside : panels < p.cfu → Faulty panels p
  cfb_outside : panels < p.cfb → Faulty panels p
  cfnr_outside : panels < p.cfnr → Faulty panels p
  busy_above : 1 < p.busy → Faulty panels p
  unattended_above : 1 < p.unattended → Faulty panels p

-- what is refused, in the page's words: four numbers make a panel
pub data Refused (numbers : List ℕ) (start : ℕ) : Type 0 where
  not_fours : (length numbers % 4 ≡ 0 → ⊥) → Refused numbers start
  empty : length (panels_of numbers) < 1 → Refused numbers start
  over_long : 256 < length (panels_of numbers) → Refused numbers start
  start_absent : start < 1 → Refused numbers start
  start_outside : length (panels_of numbers) < start → Refused numbers start
  panel_faulty : (place : ℕ) → place < length (panels_of numbers) → Faulty (length (panels_of numbers)) (get_or (panels_of numbers) place no_panel) → Refused numbers start

-- the answer is 3 exactly then, and otherwise empty
abbrev pub RefusedExactly : Type 0
RefusedExactly =
    (numbers : List ℕ) (start : ℕ)
    → (((rehearsal_of numbers start).code ≡ 3) ↔ Refused numbers start)
    × ((rehearsal_of numbers start).code ≡ 3 → rehearsal_of numbers start ≡ refusal)

-- one forward more is one step more
abbrev pub StepsOn : Type 0
StepsOn = (plan : List Panel) (start n : ℕ) → after plan start (suc n) ≡ next plan (after plan start n)

-- forwards that come back to a panel end as limit
abbrev pub CircleEnds : Type 0
CircleEnds =
    (allowed : ℕ) (plan : List Panel) (start n m : ℕ)
    → ((i : ℕ) → i < n + suc m → T (asks plan (after plan start i)))
    → after plan start (n + suc m) ≡ after plan start n
    → ((rehearsed allowed plan start).ending ≡ at_limit) × ((rehearsed allowed plan start).counter ≡ allowed)

-- a call never leaves the plan
abbrev pub StaysInPlan : Type 0
StaysInPlan =
    (plan : List Panel) (start : ℕ)
    → T (plan_ok plan start)
    → (n : ℕ)
    → n ≤ (rehearsed short_limit plan start).counter
    → T (in_plan plan (after plan start n))
