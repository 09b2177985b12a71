use Rattle.std.proofs.Common.{◌≡◌, take, ◌++◌}
use Rattle.std.specs.List.{flat_map}
use Rattle.dumpsyms_cmd.specs.Refusals.{omitted_line}
use Rattle.dumpsyms_cmd.proofs.omissions.add_omissions.Given as goal

abbrev pub invariant-lines : goal.invariant-lines
invariant-lines l = l.text.items ≡ l.fn.text.items ++ flat_map omitted_line (take l.omission-index l.omissions)
