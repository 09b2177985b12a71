use Rattle.std.proofs.Common.{◌≡◌, ◌++◌, drop}
use Rattle.sym_lookup.specs.internal.Marks.{marks_of}
use Rattle.sym_lookup.proofs.marks.marks_in.Given as goal

abbrev pub invariant-lines : goal.invariant-lines
invariant-lines l = l.marks.items ++ marks_of l.marked l.at (drop l.at l.lines) ≡ marks_of l.marked 0 l.lines
