use Rattle.std.proofs.Common.{◌≡◌, take, Ok}
use Rattle.abbrev_units.specs.Picks.{picks_at}
use Rattle.abbrev_units.specs.internal.Filled.{attributes_of, filled_by}
use Rattle.abbrev_units.proofs.view.pick_values.Given as goal

abbrev pub invariant-specs : goal.invariant-specs
invariant-specs l =
    record {
      filled : l.filled.slots ≡ filled_by (attributes_of (take l.spec-index l.specs));
      picks : picks_at (take l.spec-index l.specs) l.initial.cursor ≡ Ok (l.picks, l.cursor);
    }
