use Rattle.std.proofs.Common.{◌≡◌, ◌++◌, length}
use Rattle.step_maps.specs.Covers.{AreStretches}
use Rattle.cfi_eval.specs.internal.Finders.{stretches_to}
use Rattle.cfi_eval.proofs.memory.stretches_of.Given as goal

abbrev pub invariant-places : goal.invariant-places
invariant-places l = (l.stretches.items ++ stretches_to l.place l.runs ≡ stretches_to (length l.runs) l.runs) × AreStretches l.stretches.items
