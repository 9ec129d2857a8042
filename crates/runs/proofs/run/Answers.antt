use Rattle.std.proofs.Common.{sym, ◌∙◌}
use Rattle.runs.proofs.Bridge.{runs_refused}
use Rattle.runs.proofs.run.Goals as goal

pub returns-else-sound_board : goal.returns-else-sound_board
returns-else-sound_board c = runs_refused c.args.b c.args.events.now (sym c.sound_board.ensures ∙ c.if-sound_board.false)
