use Rattle.std.proofs.Common.{◌≡◌, ◌++◌, drop}
use Rattle.step_maps.specs.Covers.{AreStretches}
use Rattle.line_program.specs.internal.Painting.{stretches_from}
use Rattle.line_program.proofs.stretches.put_stretches.Given as goal

abbrev pub invariant-loop-index : goal.invariant-loop-index
invariant-loop-index l = record {
  same : l.stretches.items ++ stretches_from l.index (drop l.index l.kept) ≡ stretches_from 0 l.kept;
  some : AreStretches l.stretches.items;
}
