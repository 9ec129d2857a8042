use Rattle.digits.proofs.Digits.{written_two}
use Rattle.digits.proofs.+write_decimal.Goals as goal

pub returns : goal.returns
returns t c = search written_two
