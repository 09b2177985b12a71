use Rattle.std.specs.List.{All}
use Rattle.func_records.specs.internal.Gathering.{bytes_of}
use Rattle.func_records.specs.internal.Spelling.{unit_numbers, IsNumbered}
use Rattle.func_records.proofs.path_numbers.number_refs.Given as goal

abbrev pub invariant-refs : goal.invariant-refs
invariant-refs l = All (IsNumbered (unit_numbers (bytes_of l.sorted) l.units)) l.list.items
