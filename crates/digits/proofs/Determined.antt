-- What is promised of a text written into a buffer (`Written`, `Wrote`) determines the outcome: the buffer and the place behind the text. Assumes nothing.
use Prim.Native.Nat.{ℕ, ◌+◌}
use mathlib.Core.Path.{◌≡◌}
use mathlib.Core.List.{List}
use lib.ListN.{length}
use Rattle.ground.proofs.Determined.{determined}
use Rattle.digits.specs.declared.Text.{Text}
use Rattle.digits.specs.Written.{wrote, Written}
use Rattle.digits.specs.Text.{Wrote}

pub written_determined : (bytes : List ℕ) (at : ℕ) (old new new' : List ℕ) (r r' : ℕ) → Written bytes at old new r → Written bytes at old new' r' → (new ≡ new') × (r ≡ r')
written_determined bytes at old new new' r r' p q =
    (determined (wrote bytes at old) new new' p.text q.text, determined (at + length bytes) r r' p.next q.next)

pub wrote_determined : (most : ℕ) (bytes : List ℕ) (old new new' : Text) → Wrote most bytes old new → Wrote most bytes old new' → (new.out.now ≡ new'.out.now) × (new.at ≡ new'.at)
wrote_determined most bytes old new new' p q = written_determined bytes old.at old.out.now new.out.now new'.out.now new.at new'.at p.written q.written
