use Rattle.sym_judge.proofs.frames.RulePair.bare.Goals as goal

pub invariant_of-result : goal.invariant_of-result
invariant_of-result c = c.no_rule_aliases.ensures c.bare.result c.bare-2.result
