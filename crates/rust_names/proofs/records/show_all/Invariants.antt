use Rattle.std.proofs.Common.{◌≡◌, ◌++◌, map, take, drop}
use Rattle.rust_names.specs.ShownRecords.{renamed}
use Rattle.rust_names.specs.Named.{named}
use Rattle.rust_names.proofs.records.show_all.Given as goal

abbrev pub invariant-loop-at : goal.invariant-loop-at
invariant-loop-at l = l.lines.items ≡ map (renamed named) (take l.at l.initial.lines.items) ++ drop l.at l.initial.lines.items
