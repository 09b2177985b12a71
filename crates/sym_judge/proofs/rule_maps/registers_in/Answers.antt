use Rattle.std.proofs.Common.{refl}
use Rattle.sym_judge.proofs.RuleMapLemmas.{registers_begin, register_put, registers_told}
use Rattle.sym_judge.proofs.rule_maps.registers_in.Goals as goal

pub registers-init : goal.registers-init
registers-init c = registers_begin c.args.maps.now c.args.address _ refl

pub registers-preserved : goal.registers-preserved
registers-preserved c =
    register_put c.args.maps.now c.args.address c.registers.register c.registers.registers c.register_rule.result c.registers-test.true c.register_rule.ensures c.registers.invariant

pub returns : goal.returns
returns c = registers_told c.args.maps.now c.args.address c.registers.register c.registers.registers c.registers-test.false c.registers.invariant
