use Rattle.std.proofs.Common.{◌≡◌, length}
use Rattle.sym_judge.specs.internal.Blocks.{same_inside}
use Rattle.sym_judge.proofs.blocks.are_same_inside.Given as goal

abbrev pub invariant-records : goal.invariant-records
invariant-records l = same_inside l.half l.both.own l.both.other l.front l.back ≡ same_inside l.half l.both.own l.both.other l.mine l.theirs

abbrev pub decreases-records : goal.decreases-records
decreases-records l = length l.mine
