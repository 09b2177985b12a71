use Rattle.std.proofs.Common.{refl}
use Rattle.sym_judge.proofs.TableLemmas.{no_table, none_there}
use Rattle.sym_judge.proofs.rule_tables.no_rules.Goals as goal

pub returns : goal.returns
returns c = λ lines. no_table lines _ refl (λ k l. none_there 16 k)
