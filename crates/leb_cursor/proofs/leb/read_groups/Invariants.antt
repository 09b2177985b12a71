use Rattle.leb_cursor.specs.internal.Groups.{SoFar}
use Rattle.leb_cursor.proofs.leb.read_groups.Given as goal

abbrev pub invariant-loop-index : goal.invariant-loop-index
invariant-loop-index l = SoFar l.sum l.index l.bytes
