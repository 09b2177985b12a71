use Rattle.std.proofs.Common.{◌≡◌, ◌+◌, ◌^◌, ◌<◌, ◌++◌, length}
use Rattle.step_maps.specs.Covers.{AreStretches}
use Rattle.module_stacks.specs.internal.ModuleStretches.{stretches_from}
use Rattle.module_stacks.proofs.module_map.stretches_of.Given as goal

abbrev pub invariant-modules : goal.invariant-modules
invariant-modules l = record {
  all : l.stretches.items ++ stretches_from l.index l.rest ≡ stretches_from 0 l.fn.modules;
  some : AreStretches l.stretches.items;
  count : l.index + length l.rest ≡ length l.fn.modules;
  few : length l.fn.modules < 2 ^ 32;
}

abbrev pub decreases-modules : goal.decreases-modules
decreases-modules l = length l.rest
