-- The format number of a kept station and table. It moves whenever their layout changes, or what their bytes mean, or which of
-- them are sound: then what was kept under another number is not lent. (Document 02, Three, changed what is sound before there
-- was a number.)
use Rattle.std.specs.Prelude.{ℕ}

abbrev pub format : ℕ
format = 3
