-- Bytes in a buffer, piece after piece. Assumes nothing.
use Prim.Native.Nat.{ℕ, ◌+◌, ◌≤◌}
use mathlib.Core.List.{List, [], ◌++◌, append_assoc}
use mathlib.Core.Path.{◌≡◌, refl, sym, ◌∙◌}
use native.Mathlib.Nat.{add_assoc, add-zero}
use native.Mathlib.Omega.{arith}
use lib.ListN.{length, take, drop, length-append, length-take}
use lib.Seq.{take_at, drop-append-add, drop-drop, paste-zero}
use Rattle.digits.specs.declared.Text.{Text}
use Rattle.digits.specs.Written.{wrote, Written}
use Rattle.digits.specs.Text.{Wrote}

module _ (bytes : List ℕ) (at : ℕ) (old : List ℕ) (h : at + length bytes ≤ length old) where
  -- what stands before and what was written, together
  head_long : length (take at old ++ bytes) ≡ at + length bytes
  head_long = omega (arith, length-append (take at old) bytes, length-take at old)

  pub wrote_on : (more : List ℕ) → wrote more (at + length bytes) (wrote bytes at old) ≡ wrote (bytes ++ more) at old
  wrote_on more =
      let front = take at old ++ bytes in
      let rest = drop (at + length bytes) old in
      let t : take (at + length bytes) (front ++ rest) ≡ front = take_at front rest _ head_long in
      let d : drop (at + length bytes + length more) (front ++ rest) ≡ drop (length more) rest = rw head_long at (drop-append-add front rest (length more)) in
      rw (t, d, drop-drop, length-append bytes more, append_assoc (take at old) bytes more) (rw (add_assoc at (length bytes) (length more)))

-- a second piece behind the first
pub and_then : {a b old mid new : List ℕ} {at r r' : ℕ} → Written a at old mid r → Written b r mid new r' → r ≤ length old → Written (a ++ b) at old new r'
and_then {a} {b} {old} {mid} {new} {at} p q h = record {
  text = q.text ∙ rw (p.text, p.next) (wrote_on a at old (omega (arith, p.next)) b);
  next = omega (arith, q.next, p.next, length-append a b);
}

-- no bytes
pub unwritten : (at : ℕ) (old : List ℕ) → Written [] at old old at
unwritten at old = record { text = paste-zero old at []; next = sym (add-zero at) }

-- no bytes, and a piece behind another, in one text
pub wrote_nothing : (t : Text) → t.at ≤ length t.out.now → Wrote 0 [] t t
wrote_nothing t h = record { written = unwritten t.at t.out.now; upper_bound = omega arith; within = h; same_length = refl; same_reference = refl }

pub wrote_then : {m n : ℕ} {a b : List ℕ} {t u v : Text} → Wrote m a t u → Wrote n b u v → Wrote (m + n) (a ++ b) t v
wrote_then {m} {n} {a} {b} p q = record {
  written = and_then p.written q.written (omega (arith, p.within, p.same_length));
  upper_bound = omega (arith, length-append a b, p.upper_bound, q.upper_bound);
  within = q.within;
  same_length = q.same_length ∙ p.same_length;
  same_reference = q.same_reference ∙ p.same_reference;
}

pub wrote_at_most : {m k : ℕ} {a : List ℕ} {t u : Text} → Wrote m a t u → length a ≤ k → Wrote k a t u
wrote_at_most p h = record { written = p.written; upper_bound = h; within = p.within; same_length = p.same_length; same_reference = p.same_reference }
