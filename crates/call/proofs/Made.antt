-- A well made event by the row of its kind. Assumes nothing.
use Prim.Native.Nat.{ℕ}
use mathlib.Core.Path.{◌≡◌, sym, subst}
use mathlib.Core.Bool.{false}
use lib.Dec.{T, eqb}
use borrow.Author.Tests.{eqb-true}
use Rattle.ground.proofs.Bools.{by_cases}
use Rattle.ground.proofs.Walks.{or_false}
use Rattle.event.specs.declared.Event.{Event}
use Rattle.event.specs.WellMade.{open_fields, open_diverted_fields, call_only, answer_fields, divert_fields, outcome_fields, clock_fields, rerouting_fields, dli1_fields, message_fields, call_made}

pub data Made (e : Event) : Type 0 where
  opens_outgoing : e.kind ≡ 1 → T (open_fields e) → Made e
  opens_incoming : e.kind ≡ 2 → T (open_fields e) → Made e
  opens_diverted : e.kind ≡ 3 → T (open_diverted_fields e) → Made e
  alerts : e.kind ≡ 4 → T (call_only e) → Made e
  answers : e.kind ≡ 5 → T (answer_fields e) → Made e
  diverts_call : e.kind ≡ 6 → T (divert_fields e) → Made e
  results : e.kind ≡ 7 → T (outcome_fields e) → Made e
  rejects : e.kind ≡ 8 → T (outcome_fields e) → Made e
  leg_fails : e.kind ≡ 9 → T (call_only e) → Made e
  clocks : e.kind ≡ 10 → T (clock_fields e) → Made e
  ends_own : e.kind ≡ 11 → T (call_only e) → Made e
  invokes : e.kind ≡ 12 → T (rerouting_fields e) → Made e
  informs : e.kind ≡ 13 → T (dli1_fields e) → Made e
  messages : e.kind ≡ 14 → T (message_fields e) → Made e
  far_ends : e.kind ≡ 15 → T (call_only e) → Made e

-- by cases on the kind
kind_is : (e : Event) (n : ℕ) {P : Type 0} → (e.kind ≡ n → P) → (eqb e.kind n ≡ false → P) → P
kind_is e n p q = by_cases (eqb e.kind n) (λ t. p (eqb-true e.kind n t)) q

pub made : (e : Event) → T (call_made e) → Made e
unfolding call_made
made e h =
    kind_is e 1 (λ k. opens_outgoing k (simp (k, or_false) at h)) (λ n1.
    kind_is e 2 (λ k. opens_incoming k (simp (k, or_false) at h)) (λ n2.
    kind_is e 3 (λ k. opens_diverted k (simp (k, or_false) at h)) (λ n3.
    kind_is e 4 (λ k. alerts k (simp (k, or_false) at h)) (λ n4.
    kind_is e 5 (λ k. answers k (simp (k, or_false) at h)) (λ n5.
    kind_is e 6 (λ k. diverts_call k (simp (k, or_false) at h)) (λ n6.
    kind_is e 7 (λ k. results k (simp (k, or_false) at h)) (λ n7.
    kind_is e 8 (λ k. rejects k (simp (k, or_false) at h)) (λ n8.
    kind_is e 9 (λ k. leg_fails k (simp (k, or_false) at h)) (λ n9.
    kind_is e 10 (λ k. clocks k (simp (k, or_false) at h)) (λ n10.
    kind_is e 11 (λ k. ends_own k (simp (k, or_false) at h)) (λ n11.
    kind_is e 12 (λ k. invokes k (simp (k, or_false) at h)) (λ n12.
    kind_is e 13 (λ k. informs k (simp (k, or_false) at h)) (λ n13.
    kind_is e 14 (λ k. messages k (simp k at h)) (λ n14.
    kind_is e 15 (λ k. far_ends k (simp (k, or_false) at h)) (λ n15.
    absurd (simp (n1, n2, n3, n4, n5, n6, n7, n8, n9, n10, n11, n12, n13, n14, n15) at h))))))))))))))))

-- an event with the number n for its kind: what is decided by the kind computes on it
abbrev pub with_kind : ℕ → Event → Event
with_kind n e = record {
  kind = n;
  call = e.call;
  leg = e.leg;
  message = e.message;
  reason = e.reason;
  option = e.option;
  counter = e.counter;
  flag = e.flag;
  identifier = e.identifier;
  first = e.first;
  second = e.second;
  third = e.third;
  time = e.time;
}

-- what holds of it holds of an event of that kind
pub of_kind : (P : Event → Type 0) (e : Event) {n : ℕ} → e.kind ≡ n → P (with_kind n e) → P e
of_kind P e k = subst (λ n. P (with_kind n e)) (sym k)
