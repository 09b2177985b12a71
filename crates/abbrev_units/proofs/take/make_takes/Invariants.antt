use Rattle.std.proofs.Common.{length, take, drop}
use Rattle.abbrev_units.specs.internal.Filled.{FilledFor}
use Rattle.abbrev_units.specs.internal.Listed.{Starts}
use Rattle.abbrev_units.specs.internal.Takes.{AreTakes}
use Rattle.abbrev_units.proofs.take.make_takes.Given as goal

abbrev pub invariant-specs : goal.invariant-specs
invariant-specs l =
    record {
      starts : Starts l.initial.takes.items l.takes.items;
      takes : AreTakes l.kept (drop (length l.initial.takes.items) l.takes.items) l.bytes (take l.spec-index l.specs);
      filled : FilledFor l.kept (take l.spec-index l.specs) l.filled.slots;
    }
