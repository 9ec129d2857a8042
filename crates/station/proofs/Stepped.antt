-- The three ways of one event: it is refused, it acts on the record at its place, or on what the station holds. Assumes nothing.
use Prim.Native.Nat.{ℕ, zero, suc, ◌<◌}
use mathlib.Core.Path.{◌≡◌, refl}
use mathlib.Core.Bool.{Bool, true, false, not}
use mathlib.Core.List.{List}
use lib.Dec.{T, ltb, ltb→lt, eqb-suc-zero}
use lib.ListN.{length}
use Rattle.ground.specs.Choice.{when◌then◌else◌}
use Rattle.ground.proofs.Bools.{and_l, and_r, from_true, from_false}
use Rattle.event.specs.declared.Event.{Event}
use Rattle.event.specs.Remote.{of_remote}
use Rattle.call.specs.declared.Call.{Call}
use Rattle.station.specs.declared.Station.{Station}
use Rattle.station.specs.Table.{place}
use Rattle.station.specs.Refusals.{refusal}
use Rattle.station.specs.Step.{Outcome, refused, effect_at, done_at, on_call, far_moved, far_done, done, by_number, step}
use Rattle.station.proofs.Numbers.{Passed, passed}

pub data Stepped (s : Station) (calls : List Call) (e : Event) : Outcome → Type 0 where
  refuses : (n : ℕ) → refusal s calls e ≡ suc n → Stepped s calls e (refused s calls (suc n))
  settles : Passed s calls e → T (not (of_remote e)) → place calls e < length calls
      → Stepped s calls e (done_at s calls e (place calls e) (effect_at s calls e (place calls e)))
  moves : Passed s calls e → T (not (on_call calls e)) → Stepped s calls e (far_done s calls e (far_moved s calls e))

done_ways : (s : Station) (calls : List Call) (e : Event) → Passed s calls e → (b : Bool) → on_call calls e ≡ b
    → Stepped s calls e (when b then done_at s calls e (place calls e) (effect_at s calls e (place calls e)) else far_done s calls e (far_moved s calls e))
done_ways s calls e p true q =
    let t = from_true (on_call calls e) q in
    settles p (and_l (not (of_remote e)) (ltb (place calls e) (length calls)) t) (ltb→lt (place calls e) (length calls) (and_r (not (of_remote e)) (ltb (place calls e) (length calls)) t))
done_ways s calls e p false q = moves p (from_false (on_call calls e) q)

by_number_lem : (s : Station) (calls : List Call) (e : Event) (n : ℕ) → refusal s calls e ≡ n → Stepped s calls e (by_number s calls e n)
unfolding by_number done
by_number_lem s calls e zero q = done_ways s calls e (passed s calls e q) (on_call calls e) refl
by_number_lem s calls e (suc n) q = rw (eqb-suc-zero n) (refuses n q)

pub stepped : (s : Station) (calls : List Call) (e : Event) → Stepped s calls e (step s calls e)
unfolding step
stepped s calls e = by_number_lem s calls e (refusal s calls e) refl
