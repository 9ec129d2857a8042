-- What a station holds for remote activation, deactivation, interrogation and the check: two marks, "at most one destination for
-- each type", and a request of each sort that may wait.
use Rattle.std.specs.Prelude.{ℕ, Bool, ◌&&◌, List, [], ◌∷◌, leb, eqb}
use Rattle.ground.specs.Choice.{when◌then◌else◌}
use Rattle.ground.specs.Lists.{first}
use Rattle.event.specs.Kinds.{cfu, cfb}
use Rattle.event.specs.Remote.{activation, deactivation, interrogation, check, sorts}
use Rattle.notice.specs.Notice.{marked}
use Rattle.timed.specs.declared.Pending.{Pending}
use Rattle.timed.specs.Timed.{idle, holds, Timer, due_now}
use Rattle.remote.specs.declared.Pendings.{Pendings}
use Rattle.remote.specs.declared.Kept.{Kept}
use Rattle.remote.specs.declared.Remote.{Remote}
use Rattle.remote.specs.Kinds.{length_of}

-- "a fresh station takes both", "at first none"
abbrev pub fresh : ℕ → ℕ → Remote
fresh enabled allowed = record {
  pending = record { activation = idle; deactivation = idle; interrogation = idle; check = idle };
  kept = record { cfu = 0; cfb = 0; cfnr = 0 };
  enabled = enabled;
  allowed = allowed;
}

-- the request of a sort, and another in its place
abbrev pub pending_of : ℕ → Pendings → Pending
pending_of sort p =
    when eqb sort activation then p.activation else
    when eqb sort deactivation then p.deactivation else
    when eqb sort interrogation then p.interrogation else
    p.check

abbrev pub with_pending : ℕ → Pending → Pendings → Pendings
with_pending sort new p =
    when eqb sort activation then record { activation = new; deactivation = p.deactivation; interrogation = p.interrogation; check = p.check } else
    when eqb sort deactivation then record { activation = p.activation; deactivation = new; interrogation = p.interrogation; check = p.check } else
    when eqb sort interrogation then record { activation = p.activation; deactivation = p.deactivation; interrogation = new; check = p.check } else
    record { activation = p.activation; deactivation = p.deactivation; interrogation = p.interrogation; check = new }

-- the destination kept for a type, 0 where none stands, and another in its place
abbrev pub kept_for : ℕ → Kept → ℕ
kept_for type k =
    when eqb type cfu then k.cfu else
    when eqb type cfb then k.cfb else
    k.cfnr

abbrev pub with_kept : ℕ → ℕ → Kept → Kept
with_kept type number k =
    when eqb type cfu then record { cfu = number; cfb = k.cfb; cfnr = k.cfnr } else
    when eqb type cfb then record { cfu = k.cfu; cfb = number; cfnr = k.cfnr } else
    record { cfu = k.cfu; cfb = k.cfb; cfnr = number }

abbrev pub pending_is : Pendings → Remote → Remote
pending_is p r = record { pending = p; kept = r.kept; enabled = r.enabled; allowed = r.allowed }

abbrev pub kept_is : Kept → Remote → Remote
kept_is k r = record { pending = r.pending; kept = k; enabled = r.enabled; allowed = r.allowed }

-- all four with their timers, in the order in which clock events end them: "then T2 to T5"
abbrev pub timers_of : Pendings → List Timer
timers_of p =
    record { length = length_of activation; request = p.activation }
    ∷ record { length = length_of deactivation; request = p.deactivation }
    ∷ record { length = length_of interrogation; request = p.interrogation }
    ∷ record { length = length_of check; request = p.check }
    ∷ []

-- the sort of the first of them that is due; past the four where none is
abbrev pub no_sort : ℕ
no_sort = sorts

abbrev pub first_due : ℕ → Pendings → ℕ
first_due time p = first (due_now time) (timers_of p)

-- "codes in range": a mark is 0 or 1
abbrev pub mark_ok : ℕ → Bool
mark_ok mark = leb mark marked

-- "Soundness reaches the pending ones and the kept destinations too: codes in range, unused fields 0, no identifier 0 .., no start
-- after the last time". A kept destination is a number or 0: each value is one.
abbrev pub pendings_hold : ℕ → Pendings → Bool
pendings_hold last p =
    holds last p.activation && holds last p.deactivation && holds last p.interrogation && holds last p.check

unfoldable pub remote_holds : ℕ → Remote → Bool
remote_holds last r = pendings_hold last r.pending && mark_ok r.enabled && mark_ok r.allowed
