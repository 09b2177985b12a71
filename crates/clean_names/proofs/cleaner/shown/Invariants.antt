use Rattle.std.proofs.Common.{◌≡◌, map, take, drop, ◌++◌}
use Rattle.clean_names.specs.Cleaning.{shown_byte}
use Rattle.clean_names.proofs.cleaner.shown.Given as goal

abbrev pub invariant-loop-at : goal.invariant-loop-at
invariant-loop-at l = l.name.items ≡ map shown_byte (take l.at l.bytes) ++ drop l.at l.bytes
