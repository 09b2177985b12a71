use Rattle.std.proofs.Common.{◌≡◌, drop}
use Rattle.debug_read.specs.UnitsRead.{has_function}
use Rattle.debug_read.proofs.lines.has_function.Given as goal

abbrev pub invariant-entries : goal.invariant-entries
invariant-entries l = has_function (drop l.entry l.dies) ≡ has_function l.dies
