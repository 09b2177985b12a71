use Rattle.std.proofs.Common.{◌≡◌, ◌++◌, length}
use Rattle.step_maps.specs.Covers.{AreStretches}
use Rattle.sym_lookup.specs.internal.Kinds.{extent_stretches}
use Rattle.sym_lookup.proofs.stretches.push_extents.Given as goal

abbrev pub invariant-extents : goal.invariant-extents
invariant-extents l = record {
  same : l.stretches.items ++ extent_stretches l.index l.rest ≡ l.fn.stretches.items ++ extent_stretches l.index l.extents;
  fit : AreStretches l.stretches.items;
}

abbrev pub decreases-extents : goal.decreases-extents
decreases-extents l = length l.rest
