use Rattle.std.proofs.Common.{◌≡◌, take, ◌++◌}
use Rattle.std.specs.List.{flat_map}
use Rattle.stack_text.specs.StacksText.{module_line}
use Rattle.stack_text.proofs.stacks_text.add_modules.Given as goal

abbrev pub invariant-modules : goal.invariant-modules
invariant-modules l = l.text ≡ l.fn.text ++ flat_map (module_line l.walker.folder) (take l.place l.walker.core.modules)
