-- The three numbers of a divider of the code.
use Rattle.clock.specs.Divider as spec
use Rattle.clock.specs.declared.divider.Divider.{Divider}

abbrev pub numbers : Divider → spec.Divider
numbers v = record { m = v.m; d = v.d; k = v.k }
