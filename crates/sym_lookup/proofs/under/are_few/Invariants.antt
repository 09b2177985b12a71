use Rattle.std.proofs.Common.{◌≡◌, nat_le, drop}
use Rattle.std.specs.List.{sum_by}
use Rattle.sym_lookup.specs.internal.HeldUnders.{range_count}
use Rattle.sym_lookup.proofs.under.are_few.Given as goal

abbrev pub invariant-records : goal.invariant-records
invariant-records l = nat_le (sum_by range_count (drop l.at l.records)) l.room ≡ nat_le (sum_by range_count l.records) 32
