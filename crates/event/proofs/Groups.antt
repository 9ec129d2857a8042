-- To which group of kinds an event belongs, by the bounds of its kind. Assumes nothing.
use Prim.Native.Nat.{ℕ, ◌≤◌, ◌<◌}
use mathlib.Core.Bool.{true, false, ◌&&◌}
use mathlib.Core.Path.{◌≡◌}
use lib.Dec.{leb}
use borrow.Author.Tests.{le-leb, lt-leb, ne_eqb}
use native.Mathlib.Omega.{arith}
use Rattle.ground.proofs.Walks.{and_false}
use Rattle.event.specs.declared.Event.{Event}
use Rattle.event.specs.Kinds.{opens, of_incoming, of_outgoing, diverts, answers_request, ends}

-- a number within two bounds, beneath them and beyond them
within : (a b k : ℕ) → a ≤ k → k ≤ b → leb a k && leb k b ≡ true
within a b k p q = simp (le-leb a k p, le-leb k b q)

beneath : (a b k : ℕ) → k < a → leb a k && leb k b ≡ false
beneath a b k p = simp (lt-leb a k p)

beyond : (a b k : ℕ) → b < k → leb a k && leb k b ≡ false
beyond a b k p = simp (lt-leb k b p, and_false)

-- an event that names no call and opens none
pub record OfNoCall (e : Event) : Type 0 where
  pub opens : opens e ≡ false
  pub incoming : of_incoming e ≡ false
  pub outgoing : of_outgoing e ≡ false
  pub diverts : diverts e ≡ false
  pub answers : answers_request e ≡ false
  pub ends : ends e ≡ false

module _ (e : Event) where
  pub opener : 1 ≤ e.kind → e.kind < 4 → opens e ≡ true
  opener p q = within 1 3 e.kind p (omega arith)

  pub no_opener : 4 ≤ e.kind → opens e ≡ false
  no_opener p = beyond 1 3 e.kind p

  pub no_kind_opens : e.kind < 1 → opens e ≡ false
  no_kind_opens p = beneath 1 3 e.kind p

  pub incoming : 4 ≤ e.kind → e.kind < 10 → of_incoming e ≡ true
  incoming p q = simp (within 4 9 e.kind p (omega arith))

  pub far_end : e.kind ≡ 15 → of_incoming e ≡ true
  far_end p = rw p

  pub no_incoming : e.kind < 4 → of_incoming e ≡ false
  no_incoming p = simp (beneath 4 9 e.kind p, ne_eqb e.kind 15 (λ q. omega arith))

  pub past_incoming : 10 ≤ e.kind → (e.kind ≡ 15 → ⊥) → of_incoming e ≡ false
  past_incoming p n = simp (beyond 4 9 e.kind p, ne_eqb e.kind 15 n)

  pub outgoing : 12 ≤ e.kind → e.kind < 15 → of_outgoing e ≡ true
  outgoing p q = within 12 14 e.kind p (omega arith)

  pub no_outgoing : e.kind < 12 → of_outgoing e ≡ false
  no_outgoing p = beneath 12 14 e.kind p

  pub past_outgoing : 15 ≤ e.kind → of_outgoing e ≡ false
  past_outgoing p = beyond 12 14 e.kind p

  -- kinds 16 to 31
  pub of_no_call : 16 ≤ e.kind → OfNoCall e
  of_no_call h = record {
    opens = no_opener (omega arith);
    incoming = past_incoming (omega arith) (λ q. omega (arith, q));
    outgoing = past_outgoing (omega arith);
    diverts = ne_eqb e.kind 6 (λ q. omega (arith, q));
    answers = simp (ne_eqb e.kind 7 (λ q. omega (arith, q)), ne_eqb e.kind 8 (λ q. omega (arith, q)));
    ends = ne_eqb e.kind 11 (λ q. omega (arith, q));
  }
