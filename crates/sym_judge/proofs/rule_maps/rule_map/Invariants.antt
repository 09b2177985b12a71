use Rattle.sym_judge.proofs.RuleMapLemmas.{AreLastUpTo}
use Rattle.sym_judge.proofs.rule_maps.rule_map.Given as goal

abbrev pub invariant-lines : goal.invariant-lines
invariant-lines l = AreLastUpTo l.lines l.target l.init l.place l.items.items
