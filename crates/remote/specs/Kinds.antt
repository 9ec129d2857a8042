-- What goes by the sort of a remote request: its timer and its letter.
use Rattle.std.specs.Prelude.{ℕ, eqb}
use Rattle.ground.specs.Choice.{when◌then◌else◌}
use Rattle.event.specs.Remote.{activation, deactivation, interrogation}
use Rattle.timed.specs.Timed.{t2, t3to5}

-- "timers T2 of 30,000 ms and T3, T4, T5 of 15,000 ms"
abbrev pub length_of : ℕ → ℕ
length_of sort = when eqb sort activation then t2 else t3to5

-- "`panelrun` prints a, d, i, c for the invokes, r and e for answers"
abbrev pub letter_activation : ℕ
letter_activation = 97

abbrev pub letter_deactivation : ℕ
letter_deactivation = 100

abbrev pub letter_interrogation : ℕ
letter_interrogation = 105

abbrev pub letter_check : ℕ
letter_check = 99

abbrev pub letter_of : ℕ → ℕ
letter_of sort =
    when eqb sort activation then letter_activation else
    when eqb sort deactivation then letter_deactivation else
    when eqb sort interrogation then letter_interrogation else
    letter_check

abbrev pub letter_result : ℕ
letter_result = 114

abbrev pub letter_error : ℕ
letter_error = 101

-- "no leg": these messages belong to no call
abbrev pub no_leg : ℕ
no_leg = 0
