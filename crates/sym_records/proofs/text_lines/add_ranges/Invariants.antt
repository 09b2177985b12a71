use Rattle.std.proofs.Common.{◌≡◌, ◌++◌, take}
use Rattle.std.specs.List.{flat_map}
use Rattle.sym_records.specs.Fields.{spelled_range}
use Rattle.sym_records.proofs.text_lines.add_ranges.Given as goal

abbrev pub invariant-loop-range : goal.invariant-loop-range
invariant-loop-range l = l.text.items ≡ l.fn.text.items ++ flat_map spelled_range (take l.range-index l.ranges)
