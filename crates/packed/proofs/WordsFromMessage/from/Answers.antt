-- Each field is its part of a word. Assumes nothing.
use mathlib.Core.Path.{refl}
use borrow.Author.Rules.{rules}
use Rattle.packed.proofs.Sides.{message_same}
use Rattle.packed.proofs.WordsFromMessage.from.Goals as goal

pub returns : goal.returns
returns c =
    let m = c.args.m in
    rw (c.rest_word.ensures, c.head_word.ensures)
    (refl, message_same m (search rules) (search rules) (search rules) (search rules) (search rules) (search rules) (search rules) (search rules) (search rules))
