-- Fields of a record that lie side by side in memory, as one number each.
use Rattle.std.specs.Prelude.{ℕ, ◌+◌, ◌*◌}
use Rattle.call.specs.declared.Call.{Call}

-- CDO and CDR
abbrev pub legs_word : Call → ℕ
legs_word c = c.cdo + 256 * c.cdr

-- the party on leg 1, and the history
abbrev pub party_word : Call → ℕ
party_word c =
    c.party + 65536 * c.history.seen + 16777216 * c.history.strictest + 4294967296 * c.history.forbidden + 1099511627776 * c.history.shown
    + 281474976710656 * c.history.nominated

-- CDS, CDF, the granted mark and the counter
abbrev pub codes_word : Call → ℕ
codes_word c = c.cds + 256 * c.cdf + 65536 * c.granted + 16777216 * c.counter

-- the numbers of an incoming call, and its identifier
abbrev pub numbers_word : Call → ℕ
numbers_word c = c.own + 65536 * c.diverting + 4294967296 * c.original + 281474976710656 * c.identifier

-- of these the two of a diversion before
abbrev pub past_word : Call → ℕ
past_word c = c.diverting + 65536 * c.original
