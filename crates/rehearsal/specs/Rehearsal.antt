-- "The answer names the last panel, its ending (rings, busy, limit) and the counter".
use Rattle.std.specs.Prelude.{ℕ, zero, suc, ◌+◌, ◌-◌, ◌%◌, Bool, ◌&&◌, List, eqb, length}
use Rattle.ground.specs.Choice.{when◌then◌else◌}
use Rattle.station.specs.Station.{short_limit}
use Rattle.rehearsal.specs.declared.Panel.{Panel}
use Rattle.rehearsal.specs.declared.Rehearsed.{Rehearsed}
use Rattle.rehearsal.specs.Plan.{panels_of, panel_at, is_busy, next, asks, after, plan_ok}

-- the three endings
abbrev pub rings : ℕ
rings = 1

abbrev pub ends_busy : ℕ
ends_busy = 2

abbrev pub at_limit : ℕ
at_limit = 3

-- a refusal is its number and otherwise empty: no panel and no ending are 0, no counter is 255, since 0 is one
abbrev pub refusal : Rehearsed
refusal = record { code = 3; ending = 0; last = 0; counter = 255 }

abbrev pub ended : ℕ → ℕ → ℕ → Rehearsed
ended last ending counter = record { code = 0; ending = ending; last = last; counter = counter }

-- "A panel offered a call forwards it, and a forward offers it to the next panel.": how many forwards are made, at most so many
unfoldable pub forwards : ℕ → List Panel → ℕ → ℕ
forwards zero plan at = 0
forwards (suc left) plan at = when asks plan at then suc (forwards left plan (next plan at)) else 0

-- how a call ends at a panel that keeps it
abbrev pub kept_as : Panel → ℕ
kept_as p = when is_busy p then ends_busy else rings

-- at a panel that wants to forward it although all forwards are made, it ends as limit
abbrev pub ending_at : List Panel → ℕ → ℕ
ending_at plan last = when asks plan last then at_limit else kept_as (panel_at plan last)

-- a call that is offered to a panel, with so many forwards left and so many behind it
unfoldable pub offered : List Panel → ℕ → ℕ → ℕ → Rehearsed
offered plan at left counter =
    let more = forwards left plan at in
    ended (after plan at more) (ending_at plan (after plan at more)) (counter + more)

-- the panel wants to forward it to another
abbrev pub forwarded : List Panel → ℕ → ℕ → ℕ → ℕ → Rehearsed
forwarded plan at to left counter =
    when eqb left 0 then ended at at_limit counter else
    offered plan to (left - 1) (counter + 1)

-- who rings, where so many forwards are allowed
abbrev pub rehearsed : ℕ → List Panel → ℕ → Rehearsed
rehearsed allowed plan start = offered plan start allowed 0

-- numbers that a host lends are a plan if there are four for each panel
abbrev pub is_plan : List ℕ → ℕ → Bool
is_plan numbers start = eqb (length numbers % 4) 0 && plan_ok (panels_of numbers) start

-- "The limit is a short-form station's"
abbrev pub rehearsal_of : List ℕ → ℕ → Rehearsed
rehearsal_of numbers start =
    when is_plan numbers start then rehearsed short_limit (panels_of numbers) start else
    refusal
