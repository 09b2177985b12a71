use Rattle.std.proofs.Common.{length, drop}
use Rattle.abbrev_units.specs.internal.Listed.{Starts}
use Rattle.abbrev_units.specs.internal.Used.{used_spec_at, used_specs_at}
use Rattle.abbrev_units.proofs.BehindLemmas.{Behind}
use Rattle.abbrev_units.proofs.abbrev.read_specs.Given as goal

abbrev pub invariant-specs : goal.invariant-specs
invariant-specs l =
    record {
      starts : Starts l.initial.specs.items l.specs.items;
      rest : Behind (used_spec_at l.forms) (drop (length l.initial.specs.items) l.specs.items) l.cursor (used_specs_at l.forms l.initial.cursor);
    }

abbrev pub decreases-specs : goal.decreases-specs
decreases-specs l = length l.cursor.bytes
