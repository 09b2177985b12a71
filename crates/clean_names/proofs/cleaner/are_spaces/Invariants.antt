use Rattle.std.proofs.Common.{◌≡◌, take}
use Rattle.std.specs.List.{list_all}
use Rattle.clean_names.specs.Names.{is_space}
use Rattle.clean_names.proofs.cleaner.are_spaces.Given as goal

abbrev pub invariant-loop-at : goal.invariant-loop-at
invariant-loop-at l = l.spaces ≡ list_all is_space (take l.at l.bytes)
