use Rattle.std.proofs.Common.{◌≡◌, take, drop}
use Rattle.core_file.proofs.byte_list.copy.Given as goal

abbrev pub invariant-bytes : goal.invariant-bytes
invariant-bytes g l = l.bytes.items ≡ take l.i (drop l.at (g.B.ByteList.bytes l.list))
