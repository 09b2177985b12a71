use Rattle.std.proofs.Common.{◌≡◌, ◌+◌, ◌^◌, ◌<◌, ◌++◌, length}
use Rattle.step_maps.specs.Covers.{AreStretches}
use Rattle.core_file.specs.internal.Firsts.{stretches_of}
use Rattle.core_file.proofs.memory.stretches.Given as goal

abbrev pub invariant-segments : goal.invariant-segments
invariant-segments l = record {
  all : l.stretches.items ++ stretches_of l.file l.index l.rest ≡ stretches_of l.file 0 l.fn.segments;
  some : AreStretches l.stretches.items;
  count : l.index + length l.rest ≡ length l.fn.segments;
  few : length l.fn.segments < 2 ^ 32;
}

abbrev pub decreases-segments : goal.decreases-segments
decreases-segments l = length l.rest
