use Rattle.std.proofs.Common.{◌≡◌, take, ◌++◌}
use Rattle.std.specs.List.{flat_map}
use Rattle.dumpsyms_cmd.specs.commands.Check.{finding_line}
use Rattle.dumpsyms_cmd.proofs.check.add_findings.Given as goal

abbrev pub invariant-lines : goal.invariant-lines
invariant-lines l = l.text.items ≡ l.fn.text.items ++ flat_map finding_line (take l.finding-index l.found)
