use Rattle.std.proofs.Common.{◌≡◌}
use Rattle.core_file.specs.Segments.{segments_from}
use Rattle.core_file.proofs.segments.read_segments.Given as goal

abbrev pub invariant-headers : goal.invariant-headers
invariant-headers g l = l.segments.items ≡ segments_from (g.B.ByteList.bytes l.list) l.table l.k
