use Rattle.std.proofs.Common.{arith}
use Rattle.leb_cursor.proofs.GroupLemmas.{so_far_ends}
use Rattle.leb_cursor.proofs.leb.read_groups.Goals as goal

pub returns-then-byte-lt128 : goal.returns-then-byte-lt128
returns-then-byte-lt128 c =
    rw c.from.ensures (so_far_ends _ _ _ c.loop-index.invariant (omega arith) (omega arith) c.if-byte-lt128.true)
