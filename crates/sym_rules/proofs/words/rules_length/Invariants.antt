use Rattle.std.proofs.Common.{◌≡◌, ◌^◌, ◌-◌, min, length, take}
use Rattle.std.specs.List.{flat_map}
use Rattle.sym_rules.specs.Rules.{spelled_rule}
use Rattle.sym_rules.proofs.words.rules_length.Given as goal

abbrev pub invariant-loop-rule : goal.invariant-loop-rule
invariant-loop-rule l = l.total ≡ min (length (flat_map spelled_rule (take l.rule-index l.rules))) (2 ^ 64 - 1)
