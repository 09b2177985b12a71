use Rattle.sym_judge.specs.internal.RuleMaps.{AreRegisterRules}
use Rattle.sym_judge.proofs.rule_maps.registers_in.Given as goal

abbrev pub invariant-registers : goal.invariant-registers
invariant-registers l = AreRegisterRules l.maps l.address l.register l.registers
