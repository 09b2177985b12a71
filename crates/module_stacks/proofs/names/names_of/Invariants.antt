use Rattle.std.proofs.Common.{◌≡◌, map, take}
use Rattle.module_stacks.specs.Symbols.{name_of}
use Rattle.module_stacks.proofs.names.names_of.Given as goal

abbrev pub invariant-modules : goal.invariant-modules
invariant-modules l = l.names.items ≡ map (name_of l.folder) (take l.module-index l.modules)
