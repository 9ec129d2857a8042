-- "Rules for outgoing calls", the sentences on DLI1 and DLI3.
use Rattle.std.specs.Prelude.{ℕ, min, Bool, ◌&&◌, not, eqb}
use Rattle.ground.specs.Choice.{when◌then◌else◌}
use Rattle.event.specs.Kinds.{cfnr, no_notification, with_number, allowed, forbidden}
use Rattle.notice.specs.declared.Dli1.{Dli1}
use Rattle.notice.specs.declared.History.{History}
use Rattle.notice.specs.declared.Noticed.{Noticed}
use Rattle.notice.specs.declared.Shown.{Shown}

-- no notice: 0 is a notice, of reason unknown
abbrev pub no_notice : ℕ
no_notice = 255

-- no number: "0 means absent"
abbrev pub no_number : ℕ
no_number = 0

-- a mark of a record that is not set, or set: "DLI1 seen", "a forbidden DLI3 seen", "number shown", "a granted mark"
abbrev pub unmarked : ℕ
unmarked = 0

abbrev pub marked : ℕ
marked = 1

-- "DLI1 seen"
abbrev pub seen : History → Bool
seen h = eqb h.seen marked

-- "It is all 0 before the first DLI1"
abbrev pub no_history : History
no_history = record { seen = 0; strictest = 0; forbidden = 0; shown = 0; nominated = 0 }

-- "strictest option", of those so far and one more: "a smaller one is stricter"; the first of a call sets it
abbrev pub strictest_with : History → ℕ → ℕ
strictest_with h option = when seen h then min h.strictest option else option

-- "The first of a call gives a notice unless its option is 0. A later one gives a notice exactly if its reason is cfnr
-- and no option so far is 0."
abbrev pub gives_notice : History → Dli1 → Bool
gives_notice h d =
    when seen h then eqb d.reason cfnr && not (eqb (strictest_with h d.option) no_notification) else
    not (eqb d.option no_notification)

-- "The notice is the reason."
abbrev pub notice_of : History → Dli1 → ℕ
notice_of h d = when gives_notice h d then d.reason else no_notice

-- H.450.3, 9.1: "no previous notification of a diverted-to number has been given to the calling user unless, since then, a
-- divertingLegInformation1 invoke APDU with value cfnr in element diversionReason has been received.": a cfnr DLI1, whatever its
-- option, clears the shown mark. The options and the forbidden mark of the call still count.
abbrev pub reopened : History → ℕ → History
reopened h reason = record {
  seen = h.seen;
  strictest = h.strictest;
  forbidden = h.forbidden;
  shown = when eqb reason cfnr then unmarked else h.shown;
  nominated = h.nominated;
}

abbrev pub after_dli1 : History → Dli1 → History
after_dli1 h d = record {
  seen = marked;
  strictest = strictest_with (reopened h d.reason) d.option;
  forbidden = (reopened h d.reason).forbidden;
  shown = (reopened h d.reason).shown;
  nominated = d.number;
}

abbrev pub take_dli1 : History → Dli1 → Noticed
take_dli1 h d = record { notice = notice_of h d; history = after_dli1 h d }

-- of a DLI3 in Divert (its callers test that): it "shows its number .. exactly if every option so far is 2, every DLI3 so far is
-- allowed and no number has been shown", since the last cfnr DLI1 of the call if it had one
abbrev pub may_show : History → ℕ → Bool
may_show h flag = eqb flag allowed && eqb h.strictest with_number && eqb h.forbidden unmarked && eqb h.shown unmarked

-- "its number, or the last nominated one if absent"
abbrev pub number_shown : History → ℕ → ℕ → ℕ
number_shown h flag number =
    when may_show h flag then (when eqb number no_number then h.nominated else number) else
    no_number

abbrev pub after_dli3 : History → ℕ → History
after_dli3 h flag = record {
  seen = h.seen;
  strictest = h.strictest;
  forbidden = when eqb flag forbidden then marked else h.forbidden;
  shown = when may_show h flag then marked else h.shown;
  nominated = h.nominated;
}

-- flag 0 is no DLI3: nothing is shown and the history stays
abbrev pub take_dli3 : History → ℕ → ℕ → Shown
take_dli3 h flag number = record { number = number_shown h flag number; history = after_dli3 h flag }
