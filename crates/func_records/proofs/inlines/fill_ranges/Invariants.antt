use Rattle.std.proofs.Common.{◌≡◌, ◌++◌, true, map, length}
use Rattle.std.specs.List.{list_all}
use Rattle.sym_records.specs.Fields.{is_range}
use Rattle.func_records.specs.FuncRecords.{extent}
use Rattle.func_records.proofs.inlines.fill_ranges.Given as goal

abbrev pub invariant-spans : goal.invariant-spans
invariant-spans l = record {
  filled : l.ranges.items ++ map (extent l.base) l.rest ≡ map (extent l.base) l.spans;
  fit : list_all is_range l.ranges.items ≡ true;
}

abbrev pub decreases-spans : goal.decreases-spans
decreases-spans l = length l.rest
