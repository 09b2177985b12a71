use Rattle.std.proofs.Common.{◌≡◌}
use Rattle.sample_elf.specs.Made.{units, line_tables}
use Rattle.sample_elf.proofs.units.make_units.Given as goal

abbrev pub invariant-units : goal.invariant-units
invariant-units l = record {
  units : l.units.items ≡ units l.k;
  lines : l.lines.items ≡ line_tables l.k;
}
