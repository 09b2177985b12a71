use Rattle.std.proofs.Common.{◌≡◌, ◌++◌, length}
use Rattle.func_flatten.specs.internal.Classes.{shared_starts}
use Rattle.func_flatten.proofs.cover_marks.shared_starts.Given as goal

abbrev pub invariant-covers : goal.invariant-covers
invariant-covers l = l.starts.items ++ shared_starts l.rest ≡ shared_starts l.covers

abbrev pub decreases-covers : goal.decreases-covers
decreases-covers l = length l.rest
