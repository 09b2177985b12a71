use Rattle.std.proofs.Common.{◌≡◌, ◌-◌, ◌^◌, take, min, length}
use Rattle.std.specs.List.{flat_map}
use Rattle.sym_records.specs.Fields.{spelled_range}
use Rattle.sym_records.proofs.lengths.ranges_length.Given as goal

abbrev pub invariant-loop-range : goal.invariant-loop-range
invariant-loop-range l = l.total ≡ min (length (flat_map spelled_range (take l.range-index l.ranges))) (2 ^ 64 - 1)
