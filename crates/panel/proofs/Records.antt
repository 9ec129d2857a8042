-- Event records in a part of the input. Assumes nothing.
use Prim.Native.Nat.{ℕ, zero, suc, ◌+◌, ◌*◌, ◌≤◌, ◌<◌}
use mathlib.Core.List.{List, ◌++◌}
use mathlib.Core.Path.{◌≡◌, refl, sym, ap, ◌∙◌}
use native.Mathlib.Nat.{add-zero, zero-add, suc-add, add_assoc}
use native.Mathlib.Omega.{arith}
use lib.Dec.{lit<}
use lib.ListN.{length, get_or, take, drop}
use lib.Seq.{get_or-take, get_or-drop}
use Rattle.ground.specs.Bytes.{pair, four}
use Rattle.event.specs.declared.Event.{Event}
use Rattle.wire.specs.Record.{event_at, events_from}

-- the event of 24 bytes
abbrev of_bytes : (ℕ → ℕ) → Event
of_bytes f = record {
  kind = f 0;
  call = f 1;
  leg = f 2;
  message = f 3;
  reason = f 4;
  option = f 5;
  counter = f 6;
  flag = f 7;
  identifier = pair (f 8) (f 9);
  first = pair (f 10) (f 11);
  second = pair (f 12) (f 13);
  third = pair (f 14) (f 15);
  time = four (pair (f 16) (f 17)) (pair (f 18) (f 19)) (pair (f 20) (f 21)) (pair (f 22) (f 23));
}

decoded : (bytes : List ℕ) (i : ℕ) → event_at bytes i ≡ of_bytes (λ j. get_or bytes (i + j) 0)
unfolding event_at
decoded bytes i = simp (add-zero, add_assoc)

same_bytes : (f g : ℕ → ℕ) → ((j : ℕ) → j < 24 → f j ≡ g j) → of_bytes f ≡ of_bytes g
same_bytes f g h =
    rw (
      h 0 (lit< tt),
      h 1 (lit< tt),
      h 2 (lit< tt),
      h 3 (lit< tt),
      h 4 (lit< tt),
      h 5 (lit< tt),
      h 6 (lit< tt),
      h 7 (lit< tt),
      h 8 (lit< tt),
      h 9 (lit< tt),
      h 10 (lit< tt),
      h 11 (lit< tt),
      h 12 (lit< tt),
      h 13 (lit< tt),
      h 14 (lit< tt),
      h 15 (lit< tt),
      h 16 (lit< tt),
      h 17 (lit< tt),
      h 18 (lit< tt),
      h 19 (lit< tt),
      h 20 (lit< tt),
      h 21 (lit< tt),
      h 22 (lit< tt),
      h 23 (lit< tt),
    )

module _ (bytes : List ℕ) where
  event_taken : (k i : ℕ) → i + 24 ≤ k → event_at (take k bytes) i ≡ event_at bytes i
  event_taken k i h =
      decoded (take k bytes) i
      ∙ same_bytes (λ j. get_or (take k bytes) (i + j) 0) (λ j. get_or bytes (i + j) 0) (λ j l. get_or-take k bytes (i + j) 0 (omega arith))
      ∙ sym (decoded bytes i)

  event_behind : (d i : ℕ) → event_at (drop d bytes) i ≡ event_at bytes (d + i)
  event_behind d i =
      decoded (drop d bytes) i
      ∙ same_bytes (λ j. get_or (drop d bytes) (i + j) 0) (λ j. get_or bytes (d + i + j) 0) (λ j l. get_or-drop d bytes (i + j) 0 ∙ rw (add_assoc d i j))
      ∙ sym (decoded bytes (d + i))

  -- the records of the first bytes, and of those behind
  pub events_taken : (k i n : ℕ) → i + n * 24 ≤ k → events_from (take k bytes) i n ≡ events_from bytes i n
  unfolding events_from
  events_taken k i zero h = refl
  events_taken k i (suc n) h = rw (event_taken k i (omega arith), events_taken k (i + 24) n (omega arith))

  pub events_behind : (d i n : ℕ) → events_from (drop d bytes) i n ≡ events_from bytes (d + i) n
  unfolding events_from
  events_behind d i zero = refl
  events_behind d i (suc n) = rw (event_behind d i, events_behind d (i + 24) n, add_assoc d i 24)

  pub events_split : (i n m : ℕ) → events_from bytes i (n + m) ≡ events_from bytes i n ++ events_from bytes (i + n * 24) m
  unfolding events_from
  events_split i zero m = rw (zero-add, add-zero)
  events_split i (suc n) m =
      let e : i + suc n * 24 ≡ i + 24 + n * 24 = omega arith in
      rw (suc-add, events_split (i + 24) n m, e)

  pub events_long : (i n : ℕ) → length (events_from bytes i n) ≡ n
  unfolding events_from
  events_long i zero = refl
  events_long i (suc n) = ap suc (events_long (i + 24) n)
