use Rattle.sym_judge.specs.internal.RuleMaps.{AreAllRuleMaps}
use Rattle.sym_judge.proofs.rule_maps.all_maps.Given as goal

abbrev pub invariant-lines : goal.invariant-lines
invariant-lines l = AreAllRuleMaps l.lines l.all.items
