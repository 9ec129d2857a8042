-- The board as the code holds it, and the table that it stands for. Assumes nothing.
use Prim.Native.Nat.{ℕ, zero, suc, ◌≤◌, ◌<◌}
use mathlib.Core.Bool.{Bool, true, false, ◌&&◌, not}
use mathlib.Core.List.{List, [], ◌∷◌, ◌++◌}
use mathlib.Core.Path.{◌≡◌, refl, sym, ap, ◌∙◌}
use native.Mathlib.Nat.{le_of_suc-le-suc, not-suc-le-zero}
use native.Mathlib.Omega.{arith}
use borrow.Author.Tests.{le-ltb, lt-ltb, ltb-true, ltb-false, leb-true, not-true}
use lib.Dec.{ltb, leb}
use lib.ListN.{length, set, take, drop, length-take, take-append-drop}
use Rattle.ground.specs.Lists.{all}
use Rattle.ground.proofs.Bools.{by_cases}
use Rattle.ground.proofs.Walks.{both}
use Rattle.identifier.specs.Identifier.{distinct}
use Rattle.call.specs.declared.Call.{Call}
use Rattle.call.specs.declared.Effect.{Effect}
use Rattle.call.specs.Soundness.{sound_call}
use Rattle.station.specs.declared.Answer.{Answer}
use Rattle.station.specs.declared.Station.{Station}
use Rattle.station.specs.Station.{empty_answer, station_ok}
use Rattle.station.specs.Table.{open_identifiers, sound}
use Rattle.station.specs.Step.{refused, answer_of}
use Rattle.bounds.specs.Bounds.{in_bounds}
use Rattle.board.specs.declared.Board.{Board}
use Rattle.board.specs.Board.{table_of, sound_board, within}
use Rattle.board.proofs.OneEvent.{Stepped, put_back}

-- refused: the board stays
abbrev pub refused_board : Board → ℕ → Stepped
refused_board b code = record { answer = empty_answer code; board = b }

-- done on no record
abbrev pub far_board : Board → Answer → Station → Stepped
far_board b a s = record { answer = a; board = record { station = s; len = b.len; calls = b.calls } }

-- done: the record at a place is replaced by its effect
abbrev pub done_board : Board → Station → ℕ → Effect → Stepped
done_board b s i x = record { answer = answer_of i x; board = record { station = s; len = b.len; calls = set b.calls i x.call } }

pub table_long : (n : ℕ) (calls : List Call) → n ≤ 64 → length calls ≡ 64 → length (take n calls) ≡ n
table_long n calls h e = omega (arith, length-take n calls)

pub short : (len : ℕ) (s : Station) (t : Bool) → t ≡ in_bounds len s → t ≡ true → len ≤ 64
short len s t q z =
    let w = both (leb 1 len && leb len 64) (station_ok s) (sym q ∙ z) in
    leb-true len 64 (both (leb 1 len) (leb len 64) w.0).1

-- what the test of a table asks of its records
abbrev pub sound_records : Station → List Call → Bool
sound_records s calls = all (sound_call s.last) calls && distinct (open_identifiers s calls)

pub sound_parts : (s : Station) (calls : List Call) (len : ℕ) → len ≤ 64 → length calls ≡ 64
    → sound s (take len calls) ≡ in_bounds len s && sound_records s (take len calls)
unfolding sound
sound_parts s calls len h e = rw (table_long len calls h e) (regroup (leb 1 len && leb len 64) (station_ok s) (sound_records s (take len calls)))
  where
    regroup : (a b c : Bool) → a && b && c ≡ (a && b) && c
    regroup true b c = refl
    regroup false b c = refl

-- the test behind number 1, in the order of the code
pub board_tested : (b : Board) (t r : Bool) → length b.calls ≡ 64 → t ≡ in_bounds b.len b.station → t ≡ true
    → r ≡ sound_records b.station (table_of b) → r ≡ sound_board b
board_tested b t r e q z p =
    let h = short b.len b.station t q z in
    sym (rw (le-ltb 64 b.len h) (sound_parts b.station b.calls b.len h e ∙ rw (← q, z, ← p)))

pub board_unfit : (b : Board) (t : Bool) → length b.calls ≡ 64 → t ≡ in_bounds b.len b.station → t ≡ false → false ≡ sound_board b
board_unfit b t e q z =
    by_cases (ltb 64 b.len) (λ l. rw l) (λ l.
    sym (rw l (sound_parts b.station b.calls b.len (ltb-false 64 b.len l) e ∙ rw (← q, z))))

-- a list with one of its first elements replaced
pub set_beginning : {A : Type 0} (n : ℕ) (l : List A) (i : ℕ) (x : A) → i < n → set (take n l) i x ++ drop n l ≡ set l i x
set_beginning zero l i x h = absurd (not-suc-le-zero h)
set_beginning (suc n) [] i x h = refl
set_beginning (suc n) (y ∷ ys) zero x h = ap (λ r. x ∷ r) (take-append-drop n ys)
set_beginning (suc n) (y ∷ ys) (suc i) x h = ap (λ r. y ∷ r) (set_beginning n ys i x (le_of_suc-le-suc h))

-- an outcome on the table, as the array holds it
pub back_refused : (b : Board) (code : ℕ) → put_back b (refused b.station (table_of b) code) ≡ refused_board b code
back_refused b code = rw (take-append-drop b.len b.calls)

pub back_far : (b : Board) (a : Answer) (s : Station) → put_back b (record { answer = a; station = s; calls = table_of b }) ≡ far_board b a s
back_far b a s = rw (take-append-drop b.len b.calls)

pub back_done : (b : Board) (s : Station) (i : ℕ) (x : Effect) → i < b.len
    → put_back b (record { answer = answer_of i x; station = s; calls = set (table_of b) i x.call }) ≡ done_board b s i x
back_done b s i x h = rw (set_beginning b.len b.calls i x.call h)

-- a sound board has 64 records at most
pub tested_short : (b : Board) → sound_board b ≡ true → b.len ≤ 64
tested_short b h = ltb-false 64 b.len (not-true (ltb 64 b.len) (both (not (ltb 64 b.len)) (sound b.station (table_of b)) h).0)

-- what is read is a record of the array, and that of the table where the table has the place
within_small : (place len : ℕ) → len ≤ 64 → within place len < 64
within_small place len h = by_cases (ltb place len) (λ t. rw t (let l = ltb-true place len t in omega arith)) (λ f. rw f (omega arith))

pub within_near : (place len : ℕ) → place < len → within place len ≡ place
within_near place len l = rw (lt-ltb place len l)

pub in_array : (b : Board) (place i : ℕ) → sound_board b ≡ true → i ≡ within place b.len → i < 64
in_array b place i ok e = rw e (within_small place b.len (tested_short b ok))
