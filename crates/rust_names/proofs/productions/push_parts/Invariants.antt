use Rattle.std.proofs.Common.{◌≡◌, ◌++◌, ◌-◌, length, map, reverse, drop}
use Rattle.rust_names.specs.internal.Running.{inside}
use Rattle.rust_names.proofs.productions.push_parts.Given as goal

abbrev pub invariant-parts : goal.invariant-parts
invariant-parts l = l.stack.items ≡ l.initial.stack.items ++ reverse (map (inside l.nest.scope l.nest.levels l.nest.width) (drop (length l.parts - l.i) l.parts))
