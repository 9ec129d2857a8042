-- A word is 0 exactly where each of its fields is. Assumes nothing.
use mathlib.Core.Bool.{Bool, true, false, ◌&&◌}
use mathlib.Core.Path.{◌≡◌, refl, ◌∙◌}
use lib.Dec.{eqb}
use Rattle.ground.proofs.Zeros.{two, four, six}
use Rattle.waits.specs.Soundness.{waits_unused}
use Rattle.call.specs.declared.Call.{Call}
use Rattle.call.specs.Soundness.{history_unused, outgoing_unused}
use Rattle.sound.specs.Words.{legs_word, party_word, codes_word, numbers_word, past_word}

pub legs_zero : (c : Call) → eqb (legs_word c) 0 ≡ (eqb c.cdo 0 && eqb c.cdr 0)
legs_zero c = two c.cdo c.cdr 255

first_apart : (a b c d e f : Bool) → (a && b && c && d && e && f) ≡ (a && (b && c && d && e && f))
first_apart true b c d e f = refl
first_apart false b c d e f = refl

pub party_zero : (c : Call) → eqb (party_word c) 0 ≡ (eqb c.party 0 && history_unused c.history)
party_zero c =
    six c.party c.history.seen c.history.strictest c.history.forbidden c.history.shown c.history.nominated 65535 16777215 4294967295 1099511627775 281474976710655
    ∙ first_apart (eqb c.party 0) (eqb c.history.seen 0) (eqb c.history.strictest 0) (eqb c.history.forbidden 0) (eqb c.history.shown 0) (eqb c.history.nominated 0)

-- what waits, and the history, in either order
swapped : (a p h w : Bool) → (a && (p && h) && w) ≡ (a && p && w && h)
swapped true true true true = refl
swapped true true true false = refl
swapped true true false true = refl
swapped true true false false = refl
swapped true false h w = refl
swapped false p h w = refl

pub outgoing_zero : (c : Call) → (eqb (legs_word c) 0 && eqb (party_word c) 0 && waits_unused c.waiting) ≡ outgoing_unused c
outgoing_zero c = rw (legs_zero c, party_zero c) (swapped (eqb c.cdo 0 && eqb c.cdr 0) (eqb c.party 0) (history_unused c.history) (waits_unused c.waiting))

pub codes_zero : (c : Call) → eqb (codes_word c) 0 ≡ (eqb c.cds 0 && eqb c.cdf 0 && eqb c.granted 0 && eqb c.counter 0)
codes_zero c = four c.cds c.cdf c.granted c.counter 255 65535 16777215

pub numbers_zero : (c : Call) → eqb (numbers_word c) 0 ≡ (eqb c.own 0 && eqb c.diverting 0 && eqb c.original 0 && eqb c.identifier 0)
numbers_zero c = four c.own c.diverting c.original c.identifier 65535 4294967295 281474976710655

pub past_zero : (c : Call) → eqb (past_word c) 0 ≡ (eqb c.diverting 0 && eqb c.original 0)
past_zero c = two c.diverting c.original 65535
