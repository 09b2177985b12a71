use Rattle.std.proofs.Common.{Ok, sym, ap, ◌∙◌}
use Rattle.sym_edges.specs.Results.{◌>>=◌}
use Rattle.abbrev_units.specs.Units.{next_unit, units_in}
use Rattle.abbrev_units.proofs.BehindLemmas.{ends}
use Rattle.abbrev_units.proofs.unit.units.Goals as goal

pub returns-in-Ok-None : goal.returns-in-Ok-None
unfolding units_in
returns-in-Ok-None c =
    ap (λ r. r >>= λ units. Ok units.0)
    (ends next_unit c.units.units.items c.units.cursor c.next_unit.new.cursor c.in-Ok-None.field-0 _ c.units.invariant c.in-Ok-None.ensures c.in-Ok-None.field-0-is)
    ∙ ap Ok (sym c.of.ensures)
