use Rattle.std.proofs.Common.{rules}
use Rattle.digits.specs.Digits.{characters_of}
use Rattle.digits.specs.Text.{Wrote}
use Rattle.digits.proofs.Texts.{wrote_then}
use Rattle.planlines.specs.Lines.{fault_text}
use Rattle.planlines.proofs.write_fault.Goals as goal

pub returns : goal.returns
unfolding characters_of
returns c =
    let w : Wrote 57 (fault_text c.args.line) _ _ = wrote_then (wrote_then c.put_bytes.ensures c.decimal.ensures) c.put_bytes-2.ensures in
    search rules
