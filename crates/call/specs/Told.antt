-- Which DLI1 and DLI3 an event brings to the CDO, and what the caller learns of them by the list of those that the call took
-- account of. That list has the latest first, as in notice's specs/Whole. What waits meanwhile is the list of the DLI1s accepted since
-- Invoked began, in order. The theorems are in proofs/Told and Waits.
use Rattle.std.specs.Prelude.{ℕ, suc, ◌≤◌, ◌≡◌, Bool, false, ◌&&◌, ◌||◌, not, List, [], ◌∷◌, ◌++◌, T, eqb, ltb, length}
use Rattle.ground.specs.Choice.{when◌then◌else◌}
use Rattle.event.specs.declared.Event.{Event}
use Rattle.event.specs.Kinds.{cfu, cfb, cfnr, allowed, forbidden, ReroutingInvoke, Dli1Received, OutgoingMessage, FarEndEnds, alerting, connect, release_complete, on_leg2, opens, ends}
use Rattle.notice.specs.declared.Dli1.{Dli1}
use Rattle.notice.specs.declared.History.{History}
use Rattle.notice.specs.Notice.{no_notice, no_number}
use Rattle.notice.specs.Whole.{may, mayNot, Told, dli1, dli3, marks_of, diverted, counted, options_ok, last_nominated, shows, number_for, not_zero, notices, history_of}
use Rattle.waits.specs.Waits.{no_dli1, dli1s, most_wait, last_after}
use Rattle.call.specs.declared.Call.{Call}
use Rattle.call.specs.declared.Sent.{Sent}
use Rattle.call.specs.declared.Effect.{Effect}
use Rattle.call.specs.Messages.{release_on, result_on, error_on, one, three}
use Rattle.call.specs.Record.{is_free, active, delivered, divert, invoked}
use Rattle.call.specs.Outgoing.{dli1_of, setup_on}

-- "flag 0 no DLI3, 1 DLI3 allowed, 2 DLI3 forbidden; second: its number or 0"
abbrev pub dli3_of : ℕ → ℕ → List Told
dli3_of flag number =
    when eqb flag allowed then dli3 may number ∷ [] else
    when eqb flag forbidden then dli3 mayNot number ∷ [] else
    []

-- what waits by the record: in Invoked what it holds, elsewhere none
abbrev pub waiting_of : Call → List Dli1
waiting_of c = when invoked c then dli1s c.waiting else []

-- an invoke whose DLI1 begins to wait, where `accepted` wait: "cfnr: .. Invoked", and document 02, Six: "In Invoked, such an invoke [cfu
-- or cfb on leg 2] shall be accepted .. Up to 15 may wait, the first cfnr one included."
abbrev pub joins : List Dli1 → Call → Event → Bool
joins accepted c e =
    eqb e.kind ReroutingInvoke
    && (when invoked c then on_leg2 e && (eqb e.reason cfu || eqb e.reason cfb) && ltb (length accepted) most_wait
    else eqb e.reason cfnr && delivered c)

-- "12: .. Else cfu or cfb: .. DLI1 (reason, option, destination) to the own CDO.": neither in Active, nor in Invoked, where DLI1s wait
-- with leg 2
abbrev pub carries_over : Call → Event → Bool
carries_over c e = (eqb e.reason cfu || eqb e.reason cfb) && not (invoked c) && not (active c)

-- DLI1s that reach the CDO in order: the latest first
unfoldable pub latest_first : List Dli1 → List Told
latest_first [] = []
latest_first (d ∷ later) = latest_first later ++ (dli1 d ∷ [])

-- "In Invoked, ALERTING or CONNECT on leg 2: .. DLI1 to the CDO, then a DLI3."
abbrev pub leg2_answers : Call → Event → Bool
leg2_answers c e = on_leg2 e && (alerting e || connect e) && invoked c

-- "[In Invoked,] RELEASE on leg 1: leg 2 becomes leg 1, Proceeding, CDR Idle, DLI1 to the CDO (ours)."
abbrev pub leg1_leaves : Call → Event → Bool
leg1_leaves c e = not (on_leg2 e) && release_complete e && invoked c

-- "DLI3 in Divert"; "In CDO Idle a DLI3 inside ALERTING or CONNECT is passed over."
abbrev pub leg1_informs : Call → Event → Bool
leg1_informs c e = not (on_leg2 e) && divert c

-- what a message brings: all that waits with leg 2, in order, a DLI3 after all of them, or both
abbrev pub message_tells : List Dli1 → Call → Event → List Told
message_tells accepted c e =
    when leg2_answers c e then dli3_of e.flag e.second ++ latest_first accepted else
    when leg1_leaves c e then latest_first accepted else
    when leg1_informs c e then dli3_of e.flag e.second else
    []

-- what an event that the record takes brings to the CDO, where `accepted` waits; "13: .." is a DLI1 received
unfoldable pub tells : List Dli1 → Call → Event → List Told
tells accepted c e =
    when eqb e.kind ReroutingInvoke then (when carries_over c e then dli1 (dli1_of e) ∷ [] else []) else
    when eqb e.kind Dli1Received then dli1 (dli1_of e) ∷ [] else
    when eqb e.kind OutgoingMessage then message_tells accepted c e else
    []

-- document 02, Six: "all are handed to the own CDO in order when leg 2 alerts, connects, or is left alone by a release of leg 1"
abbrev pub hands_over : Call → Event → Bool
hands_over c e = eqb e.kind OutgoingMessage && (leg2_answers c e || leg1_leaves c e)

-- document 02, Six: "If leg 2 is released, leg 1 connects or the call ends, the waiting ones are dropped."
abbrev pub drops : Event → Bool
drops e =
    ends e || eqb e.kind FarEndEnds
    || (eqb e.kind OutgoingMessage && ((on_leg2 e && release_complete e) || (not (on_leg2 e) && connect e)))

-- document 02, Six: "Each waiting DLI1 is kept": the DLI1s accepted since Invoked began, in order, by the events alone: an invoke's is
-- added, and all are gone once they are handed over or dropped; an open begins anew
abbrev pub accepted_after : List Dli1 → Call → Event → List Dli1
accepted_after accepted c e =
    when opens e || hands_over c e || drops e then [] else
    when joins accepted c e then accepted ++ (dli1_of e ∷ []) else
    accepted

-- the list of a call after an event: an open begins it, and it ends where the record is free
abbrev pub list_after : List Told → List Dli1 → Call → Event → Call → List Told
list_after l accepted c e after = when opens e || is_free after then [] else tells accepted c e ++ l

-- Of what an event told, after the list l: a DLI1 gives a notice; its DLI3 shows a number.
unfoldable pub gives_notice : List Told → List Told → Bool
gives_notice l [] = false
gives_notice l (dli1 d ∷ before) = notices (before ++ l) d || gives_notice l before
gives_notice l (dli3 m n ∷ before) = gives_notice l before

-- how many of the DLI1s told give a notice
unfoldable pub notice_count : List Told → List Told → ℕ
notice_count l [] = 0
notice_count l (dli1 d ∷ before) = when notices (before ++ l) d then suc (notice_count l before) else notice_count l before
notice_count l (dli3 m n ∷ before) = notice_count l before

unfoldable pub shows_number : List Told → List Told → Bool
shows_number l [] = false
shows_number l (dli1 d ∷ before) = shows_number l before
shows_number l (dli3 m n ∷ before) = shows (before ++ l) m

-- "The notice is the reason."
unfoldable pub notice_given : List Told → List Told → ℕ
notice_given l [] = no_notice
notice_given l (dli1 d ∷ before) = when notices (before ++ l) d then d.reason else notice_given l before
notice_given l (dli3 m n ∷ before) = notice_given l before

-- "its number, or the last nominated one if absent"
unfoldable pub number_given : List Told → List Told → ℕ
number_given l [] = no_number
number_given l (dli1 d ∷ before) = number_given l before
number_given l (dli3 m n ∷ before) = when shows (before ++ l) m then number_for (before ++ l) n else no_number

-- what a stored history has to do with the list of its call
pub record Remembers (l : List Told) (h : History) : Type 0 where
  -- it is the list's
  pub history : h ≡ history_of l
  -- each DLI3 of the list has a DLI1 before it
  pub counted : T (counted l)
  -- each option is 0 to 2
  pub options : T (options_ok l)
  -- "nominated number is not 0"
  pub nominated : T (diverted l) → T (not_zero (last_nominated l))

-- what an event on a record in Invoked sends and leaves, by the list of what was accepted
pub record GoesBy (accepted : List Dli1) (c : Call) (e : Event) (sent : Sent) (after : Call) : Type 0 where
  -- document 02, Six: "result and RELEASE COMPLETE on leg 2, SETUP with DLI2 (its counter, C's number as diverting number) to the new
  -- destination, now leg 2": C's number is that of the last accepted
  pub accepts : T (invoked c) → T (joins accepted c e) → sent ≡ three (result_on 2 e.identifier) (release_on 2) (setup_on 2 (last_after no_dli1 accepted) e)
  -- each other invoke gets the return error on its leg, and the record stays
  pub denies : T (invoked c) → e.kind ≡ ReroutingInvoke → T (not (joins accepted c e)) → (sent ≡ one (error_on e.leg e.identifier)) × (after ≡ c)
  -- "leg 2 becomes leg 1": the party is the last accepted number
  pub party : T (hands_over c e) → after.party ≡ last_after no_dli1 accepted

-- what the caller learns at an event that told `new` after the list l, from the notice and the number of the answer
pub record Learns (l new : List Told) (given told : ℕ) : Type 0 where
  -- the notice is that of the DLI1 told that gives one, and none without one
  pub notice : given ≡ notice_given l new
  -- there is one exactly if the list says so
  pub noticed : not (eqb given no_notice) ≡ gives_notice l new
  -- at most one of those told gives a notice: of all that wait only the first can (waits' specs/Laws, LaterSilent)
  pub once : notice_count l new ≤ 1
  -- at most one DLI3 is told
  pub dli3s : length (marks_of new) ≤ 1
  -- the number is that of the DLI3 told, and none without one
  pub number : told ≡ number_given l new
  -- there is one exactly if the list says so
  pub shown : not (eqb told no_number) ≡ shows_number l new

-- an event's effect on a record whose call took account of the list l and accepted what waits
pub record TellsOf (l : List Told) (accepted : List Dli1) (c : Call) (e : Event) (x : Effect) : Type 0 where
  -- the answer goes by the list
  pub learns : Learns l (tells accepted c e) x.notice x.number
  -- the record after it has the history of the longer list
  pub remembers : Remembers (list_after l accepted c e x.call) x.call.history
  -- what waits in it is what was accepted
  pub waits : waiting_of x.call ≡ accepted_after accepted c e
  -- and what is sent and the party on leg 1 go by what was accepted
  pub goes : GoesBy accepted c e x.sent x.call
