use Rattle.std.proofs.Common.{refl}
use Rattle.line_program.proofs.TableLemmas.{one_ends, one_to_the_end}
use Rattle.line_program.proofs.table.paint_one.Goals as goal

pub returns-then-sequence : goal.returns-then-sequence
returns-then-sequence c = one_to_the_end _ _ _ _ _ _ _ c.requires c.sequence.view_is refl c.if-sequence.true c.in_ok-lines.ensures

pub returns : goal.returns
returns c = one_ends _ _ _ _ _ _ _ c.requires c.sequence.view_is refl c.in_ok-lines-2.ensures
