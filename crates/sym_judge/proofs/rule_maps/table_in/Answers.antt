use Rattle.std.proofs.Common.{subst, arith}
use Rattle.sym_judge.specs.internal.RuleMaps.{AreRegisterRules}
use Rattle.sym_judge.proofs.RuleMapLemmas.{table_held}
use Rattle.sym_judge.proofs.rule_maps.table_in.Goals as goal

pub returns : goal.returns
returns c = λ lines are first.
    table_held lines c.args.address c.args.maps.now c.rule_at.result c.rule_at-2.result c.registers_in.result (omega (arith, c.ranges.address.fits)) c.rule_at.ensures c.rule_at-2.ensures
    (subst (λ maps. AreRegisterRules maps c.args.address 16 c.registers_in.result) c.as_slice.ensures.value c.registers_in.ensures) are first
