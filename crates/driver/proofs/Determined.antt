-- What `play` promises determines its outcome: what it answers, done or refused, and the board after it. Assumes nothing.
use mathlib.Core.Bool.{false≢true}
use mathlib.Core.Path.{◌≡◌, sym, ap, ◌∙◌}
use Rattle.std.specs.Prelude.{Result, Ok, Err, is_ok}
use Rattle.ground.proofs.Determined.{determined}
use Rattle.event.specs.declared.Event.{Event}
use Rattle.event.specs.declared.Refusal.{Refusal}
use Rattle.station.specs.declared.Answer.{Answer}
use Rattle.turn.proofs.Determined.{number_determined}
use Rattle.board.specs.declared.Board.{Board}
use Rattle.board.specs.Board.{board_with}
use Rattle.driver.specs.Driver.{told, Drives, outcome_on}

-- done or refused, with one answer
told_determined : (one other : Result Answer Refusal) → is_ok one ≡ is_ok other → told one ≡ told other → one ≡ other
told_determined (Ok a) (Ok b) d p = ap Ok p
told_determined (Ok a) (Err r) d p = absurd (false≢true (sym d))
told_determined (Err r) (Ok a) d p = absurd (false≢true d)
told_determined (Err r) (Err s) d p = ap Err (number_determined r s (ap (λ (x : Answer). x.code) p))

pub drives_determined : (b : Board) (e : Event) (one other : Result Answer Refusal) (after after' : Board) → Drives b e one after → Drives b e other after' → (one ≡ other) × (after ≡ after')
drives_determined b e one other after after' p q = (
  told_determined one other (p.done ∙ sym q.done) (p.answer ∙ sym q.answer),
  determined (board_with b (outcome_on b e).station (outcome_on b e).calls) after after' p.board q.board,
)
