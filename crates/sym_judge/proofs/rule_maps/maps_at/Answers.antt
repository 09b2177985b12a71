use Rattle.std.proofs.Common.{sym, subst, arith}
use Rattle.sym_judge.specs.internal.RuleMaps.{AreRuleMaps}
use Rattle.sym_judge.proofs.rule_maps.maps_at.Goals as goal

pub returns-clause-maps : goal.returns-clause-maps
returns-clause-maps c = λ lines are. subst (AreRuleMaps lines) (sym c.index-all-at.is) (are c.partition_point-at.result c.index-all-at.result (omega arith))
