use Rattle.std.proofs.Common.{◌≡◌, ◌++◌, take}
use Rattle.std.specs.List.{flat_map}
use Rattle.debug_read.specs.internal.Targets.{targets_of}
use Rattle.debug_read.proofs.sup_targets.push_entries.Given as goal

abbrev pub invariant-entries : goal.invariant-entries
invariant-entries l = l.places.items ≡ l.fn.places.items ++ flat_map targets_of (take l.entry l.dies)
