use Rattle.std.proofs.Common.{◌≡◌, length}
use Rattle.sym_judge.specs.internal.RuleMaps.{AreRegisterMaps}
use Rattle.sym_judge.proofs.rule_maps.register_maps.Given as goal

abbrev pub invariant-registers : goal.invariant-registers
invariant-registers l = record {
  many : length l.maps.items ≡ l.register;
  maps : AreRegisterMaps l.lines l.init l.maps.items;
}
