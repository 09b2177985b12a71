use Rattle.std.proofs.Common.{◌≡◌, ◌-◌, ◌≤◌, length}
use Rattle.core_file.specs.Memory.{front_at}
use Rattle.core_file.proofs.front.count_held.Given as goal

abbrev pub invariant-extents : goal.invariant-extents
invariant-extents l = record {
  within : l.held ≤ l.want;
  held : length (front_at l.memory l.address l.held) ≡ l.held;
}

abbrev pub decreases-extents : goal.decreases-extents
decreases-extents l = l.want - l.held
