-- Document 02, One: "The shift planner enters forwardings for up to 256 panels and asks which one rings."
use Rattle.std.specs.Prelude.{ℕ, zero, suc, ◌/◌, ◌%◌, Bool, ◌&&◌, not, List, [], ◌∷◌, eqb, leb, length, get_or}
use Rattle.ground.specs.Choice.{when◌then◌else◌}
use Rattle.ground.specs.Lists.{all}
use Rattle.rehearsal.specs.declared.Panel.{Panel}

-- "For each panel the plan has three destinations (cfu, cfb, cfnr, each possibly absent) and two marks, busy and unattended.":
-- a host lends four numbers for each, the marks as the low and the high byte of the fourth
abbrev pub panel_of : ℕ → ℕ → ℕ → ℕ → Panel
panel_of cfu cfb cfnr marks = record { cfu = cfu; cfb = cfb; cfnr = cfnr; busy = marks % 256; unattended = marks / 256 }

unfoldable pub panels_of : List ℕ → List Panel
panels_of [] = []
panels_of (cfu ∷ []) = []
panels_of (cfu ∷ cfb ∷ []) = []
panels_of (cfu ∷ cfb ∷ cfnr ∷ []) = []
panels_of (cfu ∷ cfb ∷ cfnr ∷ marks ∷ rest) = panel_of cfu cfb cfnr marks ∷ panels_of rest

abbrev pub no_panel : Panel
no_panel = panel_of 0 0 0 0

-- "A panel's number is its place, from 1; 0 is absent."
unfoldable pub panel_at : List Panel → ℕ → Panel
panel_at plan zero = no_panel
panel_at plan (suc place) = get_or plan place no_panel

abbrev pub given : ℕ → Bool
given destination = not (eqb destination 0)

abbrev pub is_busy : Panel → Bool
is_busy p = eqb p.busy 1

abbrev pub is_unattended : Panel → Bool
is_unattended p = eqb p.unattended 1

-- the panel to which one that is offered a call forwards it, 0 where it does not: "Cfu comes first; then cfb if busy; a busy
-- panel without cfb ends as busy; then cfnr if unattended; else it rings."
abbrev pub forwards_to : Panel → ℕ
forwards_to p =
    when given p.cfu then p.cfu else
    when is_busy p then p.cfb else
    when is_unattended p then p.cfnr else
    0

-- of one that forwards it, by which of the three: 1 cfu, 2 cfb, 3 cfnr
abbrev pub reason_of : Panel → ℕ
reason_of p =
    when given p.cfu then 1 else
    when is_busy p then 2 else
    3

-- "a forward offers it to the next panel"
unfoldable pub next : List Panel → ℕ → ℕ
next plan at = forwards_to (panel_at plan at)

-- the panel that is offered the call wants to forward it
abbrev pub asks : List Panel → ℕ → Bool
asks plan at = given (next plan at)

-- the panel that has the call after so many forwards
unfoldable pub after : List Panel → ℕ → ℕ → ℕ
after plan start zero = start
after plan start (suc forwards) = after plan (next plan start) forwards

-- a number from 1 to the plan's last
abbrev pub in_plan : List Panel → ℕ → Bool
in_plan plan number = leb 1 number && leb number (length plan)

-- absent or in the plan
abbrev pub may_forward_to : ℕ → ℕ → Bool
may_forward_to panels destination = leb destination panels

-- "a .. destination outside the plan is 3", reached or not; a mark above 1 too
abbrev pub panel_ok : ℕ → Panel → Bool
panel_ok panels p =
    may_forward_to panels p.cfu && may_forward_to panels p.cfb && may_forward_to panels p.cfnr
    && leb p.busy 1 && leb p.unattended 1

-- "Refusals: an empty plan, one over 256 panels, or a start or destination outside the plan is 3."
abbrev pub plan_ok : List Panel → ℕ → Bool
plan_ok plan start =
    leb 1 (length plan) && leb (length plan) 256 && in_plan plan start && all (panel_ok (length plan)) plan
