use Rattle.module_stacks.specs.Symbols.{name_of}
use Rattle.module_stacks.proofs.NameLemmas.{map_more, map_whole}
use Rattle.module_stacks.proofs.names.names_of.Goals as goal

pub modules-preserved : goal.modules-preserved
modules-preserved c = map_more (name_of c.args.folder.now) c.args.modules.now c.modules.module-index c.module-item.result c.modules.names.items _ _ c.modules-test.true c.module-item.is c.modules.invariant c.in_ok-name_of.ensures c.in_ok-push.ensures.items

pub returns : goal.returns
returns c = map_whole (name_of c.args.folder.now) c.args.modules.now c.modules.module-index c.modules.names.items c.modules-test.false c.modules.invariant
