use Rattle.std.proofs.Common.{◌≡◌, take, drop}
use Rattle.core_file.proofs.byte_list.stands_at.Given as goal

abbrev pub invariant-loop-i : goal.invariant-loop-i
invariant-loop-i g l = take l.i (drop l.at (g.B.ByteList.bytes l.list)) ≡ take l.i l.text
