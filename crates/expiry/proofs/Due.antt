-- What is past in the column is what is due by the definition. Assumes nothing.
use Prim.Native.Nat.{ℕ, ◌+◌, ◌-◌, ◌≤◌}
use mathlib.Core.Bool.{Bool, true, false, ◌&&◌}
use mathlib.Core.List.{List, [], ◌∷◌, map}
use mathlib.Core.Path.{◌≡◌, refl, sym, ◌∙◌}
use native.Mathlib.Omega.{arith}
use borrow.Author.Tests.{le-leb, lt-leb, le-ltb, ltb-true, ltb-false, leb-false}
use lib.Dec.{ltb, leb}
use Rattle.ground.specs.Choice.{when◌then◌else◌}
use Rattle.ground.specs.Lists.{first}
use Rattle.ground.proofs.Bools.{by_cases}
use Rattle.call.specs.declared.Call.{Call}
use Rattle.call.specs.Record.{requested}
use Rattle.timed.specs.Timed.{t1}
use Rattle.call.specs.Incoming.{due}
use Rattle.expiry.specs.Expiry.{quiet_until, under, never}

-- a first place by one test is that by another which says the same of each
first_same : {A B : Type 0} (p : B → Bool) (f : A → B) (q : A → Bool) → ((x : A) → p (f x) ≡ q x) → (l : List A) → first p (map f l) ≡ first q l
unfolding first
first_same p f q h [] = refl
first_same p f q h (y ∷ ys) = rw (h y, first_same p f q h ys)

due_same : (time : ℕ) → time ≤ never → (c : Call) → under time (quiet_until c) ≡ due time c
due_same time h c = go (requested c) (leb c.start (never - t1)) refl
  where
    go : (b d : Bool) → leb c.start (never - t1) ≡ d
        → ltb (when b then (when d then c.start + (t1 - 1) else never) else never) time ≡ b && leb t1 (time - c.start)
    go true true e =
        by_cases (ltb (c.start + (t1 - 1)) time)
        (λ f. let l = ltb-true (c.start + (t1 - 1)) time f in f ∙ sym (le-leb t1 (time - c.start) (omega arith)))
        (λ f. let l = ltb-false (c.start + (t1 - 1)) time f in f ∙ sym (lt-leb t1 (time - c.start) (omega arith)))
    go true false e =
        let l = leb-false c.start (never - t1) e in
        le-ltb never time h ∙ sym (lt-leb t1 (time - c.start) (omega arith))
    go false d e = le-ltb never time h

pub due_first : (time : ℕ) → time ≤ never → (l : List Call) → first (under time) (map quiet_until l) ≡ first (due time) l
due_first time h l = first_same (under time) quiet_until (due time) (due_same time h) l
