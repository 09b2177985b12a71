use Rattle.std.proofs.Common.{subst}
use Rattle.debug_read.specs.internal.Owing.{LinesAre, IsOwing, HoldsUnit}
use Rattle.debug_read.proofs.unit_tables.settle.Goals as goal

pub returns-in-Ok-2 : goal.returns-in-Ok-2
returns-in-Ok-2 c spans alike unit owing =
    let holds : HoldsUnit spans c.args.known.now.sections.now unit c.in-Ok.found = subst (IsOwing spans c.args.known.now.sections.now unit) c.in-Ok.is owing in
    let read = rw c.root.ensures at c.in_ok-lines.ensures spans alike in
    holds.kept c.in-Ok-2.lines (subst (LinesAre spans c.args.known.now.sections.now c.in-Ok.found.die.root c.in-Ok.found.function) c.in-Ok-2.is read)
