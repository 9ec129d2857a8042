-- The four requests where none waits: the codes, and the other fields.
use Rattle.std.specs.Prelude.{Bool, ◌&&◌, eqb}
use Rattle.remote.specs.declared.Pendings.{Pendings}

abbrev pub four_idle : Pendings → Bool
four_idle p = eqb p.activation.wait 0 && eqb p.deactivation.wait 0 && eqb p.interrogation.wait 0 && eqb p.check.wait 0

abbrev pub four_blank : Pendings → Bool
four_blank p =
    eqb p.activation.start 0 && eqb p.deactivation.start 0 && eqb p.interrogation.start 0 && eqb p.check.start 0
    && eqb p.activation.identifier 0 && eqb p.deactivation.identifier 0 && eqb p.interrogation.identifier 0 && eqb p.check.identifier 0
