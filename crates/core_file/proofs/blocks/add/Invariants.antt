use Rattle.std.proofs.Common.{◌≡◌, ◌<◌, ◌≤◌, ◌++◌, length}
use Rattle.core_file.specs.internal.Joined.{all_bytes, IsHeld, SameSizes}
use Rattle.core_file.proofs.blocks.add.Given as goal

abbrev pub invariant-fronts : goal.invariant-fronts
invariant-fronts l = record {
  sizes : SameSizes l.fn.blocks l.blocks;
  held : IsHeld l.blocks;
  short : length l.blocks.tail.items < l.blocks.size;
  added : all_bytes l.blocks ++ l.rest ≡ all_bytes l.fn.blocks ++ l.bytes;
  long : length (all_bytes l.fn.blocks ++ l.bytes) ≤ l.fn.blocks.limit;
}

abbrev pub decreases-fronts : goal.decreases-fronts
decreases-fronts l = length l.rest
