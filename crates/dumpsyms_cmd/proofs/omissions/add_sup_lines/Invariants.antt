use Rattle.std.proofs.Common.{◌≡◌, take, ◌++◌}
use Rattle.std.specs.List.{flat_map}
use Rattle.dumpsyms_cmd.specs.internal.LeftOut.{sup_left}
use Rattle.dumpsyms_cmd.proofs.omissions.add_sup_lines.Given as goal

abbrev pub invariant-lines : goal.invariant-lines
invariant-lines l = l.text.items ≡ l.fn.text.items ++ flat_map (sup_left l.targets) (take l.unit-index l.units)
