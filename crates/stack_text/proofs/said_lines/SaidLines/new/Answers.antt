use Rattle.stack_text.proofs.SaidLemmas.{nothing_said}
use Rattle.stack_text.proofs.said_lines.SaidLines.new.Goals as goal

pub returns : goal.returns
returns c = nothing_said _ c.new.ensures.items c.new-2.ensures.empty
