use Rattle.std.proofs.Common.{◌≡◌, drop}
use Rattle.abbrev_units.specs.internal.Takes.{take_all}
use Rattle.abbrev_units.proofs.take.read_takes.Given as goal

abbrev pub invariant-takes : goal.invariant-takes
invariant-takes l = take_all (drop l.take-index l.takes) l.picks l.cursor ≡ take_all l.takes l.initial.picks l.initial.cursor
