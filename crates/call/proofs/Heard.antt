-- What a DLI1, a DLI3 or both, heard after a list, give the caller and leave in the history. Assumes nothing.
use Prim.Native.Nat.{ℕ, zero, suc, ◌≤◌}
use mathlib.Core.Path.{◌≡◌, refl, sym, ap}
use mathlib.Core.Bool.{Bool, true, false, not, ◌||◌}
use mathlib.Core.List.{List, [], ◌∷◌, ◌++◌, append_assoc}
use native.Mathlib.Omega.{arith}
use borrow.Author.Tests.{eqb-true}
use lib.Dec.{T, leb, eqb, eqb→eq, leb→le}
use Rattle.ground.specs.Choice.{when◌then◌else◌}
use Rattle.ground.specs.Lists.{all, any}
use Rattle.ground.proofs.Bools.{and_l, and_r, and_i, or_inr, is_true, by_cases, when_has}
use Rattle.ground.proofs.Walks.{or_false, neither}
use Rattle.event.specs.Kinds.{cfu, cfb, cfnr}
use Rattle.notice.specs.declared.Dli1.{Dli1}
use Rattle.notice.specs.declared.History.{History}
use Rattle.notice.specs.Notice.{no_notice, no_number, no_history, seen, notice_of, after_dli1, number_shown, after_dli3}
use Rattle.notice.specs.Whole.{Mark, may, mayNot, flag_of, Told, dli1, dli3, is_dli1, options_of, marks_of, diverted, notices, counted, options_ok, last_nominated, history_of}
use Rattle.notice.proofs.Whole.{summary, number_by_list, number_exactly, notice_by_list, notice_exactly}
use Rattle.waits.specs.declared.Waits.{Waits}
use Rattle.waits.specs.Waits.{behind, dli1s, after_all, take_all}
use Rattle.waits.specs.Soundness.{first_holds, later_holds}
use Rattle.waits.proofs.Laws.{not_cfnr}
use Rattle.waits.proofs.Kept.{Held}
use Rattle.call.specs.Told.{dli3_of, latest_first, gives_notice, notice_count, shows_number, notice_given, number_given, Remembers, Learns}

-- what is told after the list l: what the caller learns, and what is stored
pub record Heard (l new : List Told) (h : History) (notice number : ℕ) : Type 0 where
  pub learns : Learns l new notice number
  pub remembers : Remembers (new ++ l) h

-- "reason 0 to 3; option 0 to 2; second: nominated number, not 0"
pub record Ranged (d : Dli1) : Type 0 where
  pub reason : T (leb d.reason 3)
  pub option : T (leb d.option 2)
  pub number : T (not (eqb d.number 0))

-- "It is all 0 before the first DLI1"
pub none_told : Remembers [] no_history
unfolding history_of counted options_of all any
none_told = record { history = refl; counted = tt; options = tt; nominated = λ t. absurd t }

pub learns_none : (l : List Told) → Learns l [] no_notice no_number
unfolding notice_given number_given gives_notice shows_number notice_count marks_of
learns_none l = record { notice = refl; noticed = refl; once = omega arith; number = refl; shown = refl; dli3s = omega arith }

seen_told : (b : Bool) → T (eqb (when b then 1 else 0) 1) → T b
seen_told true t = tt
seen_told false t = t

module _ {l : List Told} {h : History} (w : Remembers l h) where
  pub heard_none : Heard l [] h no_notice no_number
  heard_none = record { learns = learns_none l; remembers = w }

  -- "DLI1 seen" is one of the list
  pub diverted_seen : T (seen h) → T (diverted l)
  diverted_seen t = seen_told (diverted l) (rw (w.history, (summary l w.counted w.options).seen_is) at t)

  pub seen_diverted : T (diverted l) → seen h ≡ true
  seen_diverted t = rw (w.history, (summary l w.counted w.options).seen_is, is_true (diverted l) t) refl

  pub heard_dli1 : (d : Dli1) → Ranged d → Heard l (dli1 d ∷ []) (after_dli1 h d) (notice_of h d) no_number
  unfolding history_of counted options_of last_nominated all notice_given number_given gives_notice shows_number notice_count marks_of
  heard_dli1 d r = record {
    learns = record {
      notice = rw w.history (notice_by_list l d).1;
      noticed = rw (w.history, or_false (notices l d)) (notice_exactly l d r.reason);
      once = when_has (λ (n : ℕ). n ≤ 1) (notices l d) (λ _. omega arith) (λ _. omega arith);
      number = refl;
      shown = refl;
      dli3s = omega arith;
    };
    remembers = record {
      history = ap (λ g. after_dli1 g d) w.history;
      counted = w.counted;
      options = and_i (leb d.option 2) (options_ok l) r.option w.options;
      nominated = λ t. r.number;
    };
  }

  pub heard_dli3 : (m : Mark) (number : ℕ) → T (diverted l) → Heard l (dli3 m number ∷ []) (after_dli3 h (flag_of m)) no_notice (number_shown h (flag_of m) number)
  unfolding history_of counted options_of last_nominated any notice_given number_given gives_notice shows_number notice_count marks_of
  heard_dli3 m number t =
      let k : T (counted (dli3 m number ∷ l)) = and_i (diverted l) (counted l) t w.counted in
      record {
        learns = record {
          notice = refl;
          noticed = refl;
          once = omega arith;
          dli3s = omega arith;
          number = rw w.history (number_by_list l m number k w.options);
          shown = rw w.history (number_exactly l m number k w.options (w.nominated t));
        };
        remembers = record { history = ap (λ g. after_dli3 g (flag_of m)) w.history; counted = k; options = w.options; nominated = λ u. w.nominated t };
      }

-- "flag 0 no DLI3, 1 DLI3 allowed, 2 DLI3 forbidden"
pub data Flagged : ℕ → Type 0 where
  without : Flagged 0
  with3 : (m : Mark) → Flagged (flag_of m)

pub flagged : (flag : ℕ) → T (leb flag 2) → Flagged flag
flagged zero t = without
flagged (suc zero) t = with3 may
flagged (suc (suc zero)) t = with3 mayNot
flagged (suc (suc (suc n))) t = absurd (omega (arith, leb→le))

dli3_marked : (m : Mark) (number : ℕ) → dli3_of (flag_of m) number ≡ dli3 m number ∷ []
dli3_marked may number = refl
dli3_marked mayNot number = refl

-- a message's DLI3, if it has one
pub heard_message : {l : List Told} {h : History} {flag : ℕ} (number : ℕ) → Flagged flag → Remembers l h → T (diverted l)
    → Heard l (dli3_of flag number) (after_dli3 h flag) no_notice (number_shown h flag number)
heard_message number without w t = heard_none w
heard_message number (with3 m) w t = rw (dli3_marked m number) (heard_dli3 w m number t)

-- what is told in two parts, `new` after `old`: a DLI1 among the later ones gives no notice, among the earlier ones there is no DLI3
notice_then : (l new old : List Told) → gives_notice (old ++ l) new ≡ false → notice_given l (new ++ old) ≡ notice_given l old
unfolding notice_given gives_notice
notice_then l [] old q = refl
notice_then l (dli1 d ∷ new) old q =
    let (a, b) = neither (notices (new ++ (old ++ l)) d) (gives_notice (old ++ l) new) q in
    rw (append_assoc new old l, a) (notice_then l new old b)
notice_then l (dli3 m n ∷ new) old q = notice_then l new old q

gives_then : (l new old : List Told) → gives_notice (old ++ l) new ≡ false → gives_notice l (new ++ old) ≡ gives_notice l old
unfolding gives_notice
gives_then l [] old q = refl
gives_then l (dli1 d ∷ new) old q =
    let (a, b) = neither (notices (new ++ (old ++ l)) d) (gives_notice (old ++ l) new) q in
    rw (append_assoc new old l, a) (gives_then l new old b)
gives_then l (dli3 m n ∷ new) old q = gives_then l new old q

count_then : (l new old : List Told) → gives_notice (old ++ l) new ≡ false → notice_count l (new ++ old) ≡ notice_count l old
unfolding notice_count gives_notice
count_then l [] old q = refl
count_then l (dli1 d ∷ new) old q =
    let (a, b) = neither (notices (new ++ (old ++ l)) d) (gives_notice (old ++ l) new) q in
    rw (append_assoc new old l, a) (count_then l new old b)
count_then l (dli3 m n ∷ new) old q = count_then l new old q

-- only DLI1s are told
unfoldable only_dli1 : List Told → Bool
only_dli1 [] = true
only_dli1 (dli1 d ∷ l) = only_dli1 l
only_dli1 (dli3 m n ∷ l) = false

number_none : (l old : List Told) → T (only_dli1 old) → number_given l old ≡ no_number
unfolding number_given only_dli1
number_none l [] t = refl
number_none l (dli1 d ∷ old) t = number_none l old t
number_none l (dli3 m n ∷ old) t = absurd t

shows_none : (l old : List Told) → T (only_dli1 old) → shows_number l old ≡ false
unfolding shows_number only_dli1
shows_none l [] t = refl
shows_none l (dli1 d ∷ old) t = shows_none l old t
shows_none l (dli3 m n ∷ old) t = absurd t

number_then : (l new old : List Told) → T (only_dli1 old) → number_given l (new ++ old) ≡ number_given (old ++ l) new
unfolding number_given
number_then l [] old t = number_none l old t
number_then l (dli1 d ∷ new) old t = number_then l new old t
number_then l (dli3 m n ∷ new) old t = rw (append_assoc new old l)

shows_then : (l new old : List Told) → T (only_dli1 old) → shows_number l (new ++ old) ≡ shows_number (old ++ l) new
unfolding shows_number
shows_then l [] old t = shows_none l old t
shows_then l (dli1 d ∷ new) old t = shows_then l new old t
shows_then l (dli3 m n ∷ new) old t = rw (append_assoc new old l)

marks_then : (new old : List Told) → T (only_dli1 old) → marks_of (new ++ old) ≡ marks_of new
unfolding marks_of only_dli1
marks_then [] [] t = refl
marks_then [] (dli1 d ∷ old) t = marks_then [] old t
marks_then [] (dli3 m n ∷ old) t = absurd t
marks_then (dli1 d ∷ new) old t = marks_then new old t
marks_then (dli3 m n ∷ new) old t = ap (λ (l : List Mark). m ∷ l) (marks_then new old t)

heard_then : {l old new : List Told} {g h : History} {notice shown : ℕ} → T (only_dli1 old) → Heard l old g notice no_number
    → Heard (old ++ l) new h no_notice shown → Heard l (new ++ old) h notice shown
heard_then {l} {old} {new} t a b =
    let q : gives_notice (old ++ l) new ≡ false = sym b.learns.noticed in
    record {
      learns = record {
        notice = rw (notice_then l new old q) a.learns.notice;
        noticed = rw (gives_then l new old q) a.learns.noticed;
        once = rw (count_then l new old q) a.learns.once;
        number = rw (number_then l new old t) b.learns.number;
        shown = rw (shows_then l new old t) b.learns.shown;
        dli3s = rw (marks_then new old t) b.learns.dli3s;
      };
      remembers = rw (append_assoc new old l) b.remembers;
    }

one_only : (d : Dli1) → T (only_dli1 (dli1 d ∷ []))
unfolding only_dli1
one_only d = tt

dli1s_only : (ds : List Dli1) → T (only_dli1 (latest_first ds))
unfolding only_dli1 latest_first
dli1s_only [] = tt
dli1s_only (d ∷ ds) = only_more (latest_first ds) (dli1s_only ds)
  where
    only_more : (l : List Told) → T (only_dli1 l) → T (only_dli1 (l ++ (dli1 d ∷ [])))
    only_more [] t = tt
    only_more (dli1 x ∷ l) t = only_more l t
    only_more (dli3 m n ∷ l) t = absurd t

later_ranged : (d : Dli1) → T (later_holds d) → Ranged d
later_ranged d t =
    let c : T (eqb d.reason cfu || eqb d.reason cfb) = search (and_l, and_r) depth 8 in
    record { reason = small d.reason c; option = search (and_l, and_r) depth 8; number = search (and_l, and_r) depth 8 }
  where
    small : (r : ℕ) → T (eqb r cfu || eqb r cfb) → T (leb r 3)
    small r t = by_cases (eqb r cfu) (λ y. rw (eqb-true r cfu y) tt) (λ n. rw (eqb→eq r cfb (simp n at t)) tt)

-- a later one that is cfu or cfb gives no notice
later_none : {l : List Told} {h : History} (w : Remembers l h) (d : Dli1) → T (diverted l) → T (later_holds d)
    → Heard l (dli1 d ∷ []) (after_dli1 h d) no_notice no_number
later_none {l} {h} w d t k =
    let n : eqb d.reason cfnr ≡ false = not_cfnr d.reason (search (and_l, and_r)) in
    let s : seen h ≡ true = seen_diverted w t in
    let q : notice_of h d ≡ no_notice = rw (s, n) refl in
    rw q at (heard_dli1 w d (later_ranged d k))

heard_later : {l : List Told} {h : History} (ds : List Dli1) → Remembers l h → T (diverted l) → T (all later_holds ds)
    → Heard l (latest_first ds) (after_all h ds) no_notice no_number
unfolding latest_first after_all all any
heard_later [] w t k = heard_none w
heard_later {l = l} {h = h} (d ∷ ds) w t k =
    let a = later_none w d t (and_l (later_holds d) (all later_holds ds) k) in
    heard_then (one_only d) a (heard_later {l = dli1 d ∷ l} {h = after_dli1 h d} ds a.remembers tt (and_r (later_holds d) (all later_holds ds) k))

first_ranged : (d : Dli1) → T (first_holds d) → Ranged d
first_ranged d t =
    let r : d.reason ≡ cfnr = search (and_l, and_r, eqb→eq) depth 8 in
    record { reason = rw r tt; option = search (and_l, and_r) depth 8; number = search (and_l, and_r) depth 8 }

-- all that wait, in order
pub heard_waits : {l : List Told} {h : History} (w : Waits) → Held w → Remembers l h
    → Heard l (latest_first (dli1s w)) (take_all h (dli1s w)).history (take_all h (dli1s w)).notice no_number
unfolding latest_first take_all any
heard_waits w k m =
    let a = heard_dli1 m w.first (first_ranged w.first k.first) in
    heard_then (one_only w.first) a (heard_later (behind w) a.remembers tt k.later)

waits_diverted : (w : Waits) (l : List Told) → T (diverted (latest_first (dli1s w) ++ l))
unfolding latest_first any
waits_diverted w l = with_one (latest_first (behind w))
  where
    with_one : (new : List Told) → T (diverted ((new ++ (dli1 w.first ∷ [])) ++ l))
    with_one [] = tt
    with_one (x ∷ new) = or_inr (is_dli1 x) _ (with_one new)

-- "DLI1 to the CDO, then a DLI3": all that wait, then a DLI3
pub heard_both : {l : List Told} {h : History} {flag : ℕ} (w : Waits) (number : ℕ) → Held w → Flagged flag → Remembers l h
    → Heard l (dli3_of flag number ++ latest_first (dli1s w)) (after_dli3 (take_all h (dli1s w)).history flag) (take_all h (dli1s w)).notice
    (number_shown (take_all h (dli1s w)).history flag number)
heard_both {l} w number k g m =
    let a = heard_waits w k m in
    heard_then (dli1s_only (dli1s w)) a (heard_message number g a.remembers (waits_diverted w l))
