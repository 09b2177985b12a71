use Rattle.std.proofs.Common.{◌≡◌, take}
use Rattle.std.specs.List.{list_all}
use Rattle.clean_names.specs.Names.{is_within_line}
use Rattle.rust_names.proofs.symbol.are_one_line.Given as goal

abbrev pub invariant-loop-at : goal.invariant-loop-at
invariant-loop-at l = l.one_line ≡ list_all is_within_line (take l.at l.bytes)
