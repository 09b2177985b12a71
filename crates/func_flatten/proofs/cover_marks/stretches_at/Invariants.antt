use Rattle.std.proofs.Common.{◌≡◌, ◌++◌, length}
use Rattle.std.specs.List.{filter}
use Rattle.func_flatten.specs.internal.Classes.{reaches_any}
use Rattle.func_flatten.proofs.cover_marks.stretches_at.Given as goal

abbrev pub invariant-stretches : goal.invariant-stretches
invariant-stretches l = l.kept.items ++ filter (reaches_any l.addresses) l.rest ≡ filter (reaches_any l.addresses) l.stretches

abbrev pub decreases-stretches : goal.decreases-stretches
decreases-stretches l = length l.rest
