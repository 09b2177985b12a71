use Rattle.module_stacks.specs.SymbolFiles.{seen_in}
use Rattle.module_stacks.proofs.WalkerLemmas.{stack_is}
use Rattle.module_stacks.proofs.walker.StackWalker.walk.Goals as goal

pub returns-clause-walk : goal.returns-clause-walk
returns-clause-walk g c = stack_is c.walk_from.result (seen_in c.walk_from.new.self.known) c.args.self.now.core c.args.self.now.folder c.args.thread.now c.regs_of.result c.first_place-first.result c.regs_of.ensures c.first_place-first.ensures c.walk_from.ensures.walk
