use Rattle.std.proofs.Common.{sym, subst, ◌∙◌, ◌+◌, ap, length, arith}
use Rattle.sym_judge.specs.internal.RuleMaps.{AreRegisterMaps}
use Rattle.sym_judge.proofs.RuleMapLemmas.{no_maps, length_more, register_pushed}
use Rattle.sym_judge.proofs.rule_maps.register_maps.Goals as goal

pub registers-init : goal.registers-init
registers-init c = record {
  many = ap length c.new-maps.ensures.items;
  maps = subst (AreRegisterMaps c.args.lines.now c.args.init) (sym c.new-maps.ensures.items) (no_maps c.args.lines.now c.args.init);
}

pub registers-preserved : goal.registers-preserved
registers-preserved c = record {
  many = ap length c.in_ok-push.ensures.items ∙ length_more c.registers.maps.items c.in_ok-map.map ∙ ap (λ n. n + 1) c.registers.invariant.many;
  maps = register_pushed c.args.lines.now c.args.init c.registers.maps.items c.push.new.self.items c.in_ok-map.map c.registers.register c.registers.invariant.many c.in_ok-push.ensures.items c.in_ok-map.ensures c.registers.invariant.maps;
}

pub returns-clause-many : goal.returns-clause-many
returns-clause-many c = c.registers.invariant.many ∙ omega arith

pub returns-clause-maps : goal.returns-clause-maps
returns-clause-maps c = c.registers.invariant.maps
