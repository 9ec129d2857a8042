-- Every history that a sound record holds is that of some list. Assumes nothing.
use Prim.Native.Nat.{ℕ, zero, suc, min}
use mathlib.Core.Path.{◌≡◌}
use mathlib.Core.Bool.{not}
use mathlib.Core.List.{List, [], ◌∷◌}
use native.Mathlib.Omega.{arith}
use lib.Dec.{T, leb, eqb, eqb→eq, leb→le}
use Rattle.ground.specs.Lists.{any}
use Rattle.ground.proofs.Bools.{and_l, and_r, by_cases, from_true}
use Rattle.notice.specs.declared.Dli1.{Dli1}
use Rattle.notice.specs.declared.History.{History}
use Rattle.notice.specs.Notice.{seen, no_history}
use Rattle.notice.specs.Whole.{may, mayNot, Told, dli1, dli3}
use Rattle.call.specs.declared.Call.{Call}
use Rattle.call.specs.Soundness.{history_unused, history_holds, sound_call}
use Rattle.call.specs.Told.{Remembers}
use Rattle.call.proofs.Sound.{Sound, free, outgoing, incoming, sound_view}
use Rattle.call.proofs.Heard.{none_told, heard_dli1, heard_dli3}

pub record Recalled (h : History) : Type 0 where
  pub list : List Told
  pub remembers : Remembers list h

-- a history after a first DLI1
abbrev held : ℕ → ℕ → ℕ → ℕ → History
held strictest forbidden shown nominated =
    record { seen = 1; strictest = strictest; forbidden = forbidden; shown = shown; nominated = nominated }

abbrev informing : ℕ → ℕ → Dli1
informing option number = record { reason = 0; option = option; number = number }

module _ (o n : ℕ) (a : T (leb o 2)) (b : T (not (eqb n 0))) where
  -- one DLI1
  unshown : Remembers (dli1 (informing o n) ∷ []) (held o 0 0 n)
  unshown = (heard_dli1 none_told (informing o n) (record { reason = tt; option = a; number = b })).remembers

  -- a DLI1 with number, a DLI3 allowed, which shows it, and a DLI1 more
  shown : Remembers (dli1 (informing o n) ∷ dli3 may 0 ∷ dli1 (informing 2 n) ∷ []) (held o 0 1 n)
  unfolding any
  shown =
      let first = (heard_dli1 none_told (informing 2 n) (record { reason = tt; option = tt; number = b })).remembers in
      let second = (heard_dli3 first may 0 tt).remembers in
      let third = (heard_dli1 second (informing o n) (record { reason = tt; option = a; number = b })).remembers in
      let l = leb→le o 2 a in
      let q : min 2 o ≡ o = omega arith in
      rw q at third

  -- any marks
  marked : (f s : ℕ) → T (leb f 1) → T (leb s 1) → Recalled (held o f s n)
  unfolding any
  marked zero zero x y = record { list = _; remembers = unshown }
  marked zero (suc zero) x y = record { list = _; remembers = shown }
  marked (suc zero) zero x y = record { list = _; remembers = (heard_dli3 unshown mayNot 0 tt).remembers }
  marked (suc zero) (suc zero) x y = record { list = _; remembers = (heard_dli3 shown mayNot 0 tt).remembers }
  marked (suc (suc f)) s x y = absurd (omega (arith, leb→le))
  marked zero (suc (suc s)) x y = absurd (omega (arith, leb→le))
  marked (suc zero) (suc (suc s)) x y = absurd (omega (arith, leb→le))

unused_recalled : (h : History) → T (history_unused h) → Recalled h
unused_recalled h t =
    let a : h.seen ≡ 0 = search (and_l, and_r, eqb→eq) in
    let b : h.strictest ≡ 0 = search (and_l, and_r, eqb→eq) in
    let c : h.forbidden ≡ 0 = search (and_l, and_r, eqb→eq) in
    let d : h.shown ≡ 0 = search (and_l, and_r, eqb→eq) in
    let e : h.nominated ≡ 0 = search (and_l, and_r, eqb→eq) in
    let q : h ≡ no_history = λ z. record { seen = a z; strictest = b z; forbidden = c z; shown = d z; nominated = e z } in
    rw q (record { list = []; remembers = none_told })

history_recalled : (h : History) → T (history_holds h) → Recalled h
history_recalled h t =
    by_cases (seen h)
    (λ y.
    let u = simp y at t in
    let e : h.seen ≡ 1 = eqb→eq h.seen 1 (from_true (seen h) y) in
    let q : h ≡ held h.strictest h.forbidden h.shown h.nominated = λ z. record {
      seen = e z;
      strictest = h.strictest;
      forbidden = h.forbidden;
      shown = h.shown;
      nominated = h.nominated;
    } in
    rw q (marked h.strictest h.nominated (search (and_l, and_r)) (search (and_l, and_r)) h.forbidden h.shown (search (and_l, and_r)) (search (and_l, and_r))))
    (λ y. unused_recalled h (simp y at t))

pub sound_recalled : (last : ℕ) (c : Call) → T (sound_call last c) → Recalled c.history
sound_recalled last c h = go (sound_view last c h)
  where
    go : Sound last c → Recalled c.history
    go (free e) = rw e (record { list = []; remembers = none_told })
    go (outgoing w) = history_recalled c.history w.history
    go (incoming w) = unused_recalled c.history (search (and_l, and_r))
