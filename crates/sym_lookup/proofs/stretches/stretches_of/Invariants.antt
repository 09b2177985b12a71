use Rattle.std.proofs.Common.{◌≡◌, ◌+◌, ◌++◌, drop}
use Rattle.step_maps.specs.Covers.{AreStretches}
use Rattle.sym_lookup.specs.internal.Kinds.{stretches_of}
use Rattle.sym_lookup.proofs.stretches.stretches_of.Given as goal

abbrev pub invariant-records : goal.invariant-records
invariant-records l = record {
  same : l.stretches.items ++ stretches_of l.kind (l.first + l.at) (drop l.at l.records) ≡ stretches_of l.kind l.first l.records;
  fit : AreStretches l.stretches.items;
}
