use Rattle.std.proofs.Common.{◌≡◌, map, take}
use Rattle.func_records.specs.internal.Gathering.{bytes_of}
use Rattle.func_records.specs.internal.Spelling.{number_or_0}
use Rattle.func_records.proofs.numbers.numbers_of.Given as goal

abbrev pub invariant-texts : goal.invariant-texts
invariant-texts l = l.numbers.items ≡ map (number_or_0 (bytes_of l.sorted)) (bytes_of (take l.place l.texts))
