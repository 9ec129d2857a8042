-- What a survey says, by the definitions that a step cites: are all records sound, the lowest free place, and, where all are sound, the lowest due place. Assumes nothing.
use Prim.Native.Nat.{ℕ, suc, ◌+◌, ◌-◌, ◌≤◌, ◌<◌}
use mathlib.Core.Bool.{Bool, true, false, ◌&&◌, false≢true}
use mathlib.Core.List.{List, [], ◌∷◌}
use mathlib.Core.Path.{◌≡◌, refl, sym, ◌∙◌}
use native.Mathlib.Omega.{arith}
use borrow.Author.Tests.{le-leb, lt-leb}
use lib.Dec.{ltb, leb, ltb→lt, nltb→le}
use lib.ListN.{length}
use Rattle.ground.specs.Choice.{when◌then◌else◌}
use Rattle.ground.specs.Lists.{first, all}
use Rattle.ground.proofs.Bools.{by_cases}
use Rattle.ground.proofs.Walks.{both}
use Rattle.call.specs.declared.Call.{Call}
use Rattle.call.specs.Record.{is_free, is_incoming, request_of, requested}
use Rattle.call.specs.Soundness.{sound_call}
use Rattle.sound.proofs.Cases.{only_incoming}
use Rattle.timed.specs.Timed.{t1, waits}
use Rattle.call.specs.Incoming.{due}
use Rattle.survey.specs.declared.Asked.{Asked}
use Rattle.survey.specs.Survey.{request_in, passed_of}

-- the place of the first, from i on
step : (b : Bool) (i x y : ℕ) → y ≡ suc i + x → (when b then i else y) ≡ i + (when b then 0 else suc x)
step true i x y h = omega arith
step false i x y h = omega (arith, h)

due_test : (s time : ℕ) → ltb s (time - (t1 - 1)) ≡ leb t1 (time - s)
due_test s time =
    by_cases (ltb s (time - (t1 - 1)))
    (λ t. let l : s < time - (t1 - 1) = ltb→lt s (time - (t1 - 1)) (rw t tt) in t ∙ sym (le-leb t1 (time - s) (omega (arith, l))))
    (λ f. let l : time - (t1 - 1) ≤ s = nltb→le s (time - (t1 - 1)) (rw f tt) in f ∙ sym (lt-leb t1 (time - s) (omega (arith, l))))

module _ (q : Asked) where
  -- in a sound table the request that is noted is the record's
  pub noted : (c : Call) → sound_call q.last c ≡ true → waits (request_in c) ≡ requested c
  noted c s = by_cases (is_incoming c) (λ d. rw d) (λ d. rw d (sym (only_incoming q.last c s d)))

  pub same_request : (c : Call) → requested c ≡ true → sound_call q.last c ≡ true → request_in c ≡ request_of c
  same_request c t s = by_cases (is_incoming c) (λ d. rw d) (λ d. absurd (false≢true (sym (only_incoming q.last c s d) ∙ t)))

module _ (q : Asked) (n : ℕ) where
  pub survey_sound : (i : ℕ) (l : List Call) → (passed_of q n i l).sound ≡ all (sound_call q.last) l
  unfolding passed_of all
  survey_sound i [] = refl
  survey_sound i (c ∷ rest) = rw (survey_sound (suc i) rest)

  pub survey_free : (i : ℕ) (l : List Call) → i + length l ≡ n → (passed_of q n i l).free ≡ i + first is_free l
  unfolding passed_of first
  survey_free i [] h = omega (arith, h)
  survey_free i (c ∷ rest) h = step (is_free c) i (first is_free rest) _ (survey_free (suc i) rest (omega (arith, h)))

  pub survey_due : (time i : ℕ) (l : List Call) → all (sound_call q.last) l ≡ true → q.by ≡ time - (t1 - 1) → i + length l ≡ n → (passed_of q n i l).due ≡ i + first (due time) l
  unfolding passed_of first all
  survey_due time i [] s e h = omega (arith, h)
  survey_due time i (c ∷ rest) s e h =
      let w = both (sound_call q.last c) (all (sound_call q.last) rest) s in
      let t : (waits (request_in c) && ltb (request_in c).start q.by) ≡ due time c = by_cases (requested c) (λ r. rw (same_request q c r w.0, e, due_test c.start time)) (λ r. rw (noted q c w.0, r)) in
      rw t (step (due time c) i (first (due time) rest) _ (survey_due time (suc i) rest w.1 e (omega (arith, h))))
