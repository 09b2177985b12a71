use Rattle.std.proofs.Common.{rules}
use Rattle.stack_text.proofs.StacksTextLemmas.{modules_end}
use Rattle.stack_text.proofs.stacks_text.add_modules.Goals as goal

pub returns : goal.returns
returns c = modules_end c.args.walker.now.folder c.args.walker.now.core.modules c.modules.place c.args.text.now c.modules.text (search rules) c.modules.invariant
