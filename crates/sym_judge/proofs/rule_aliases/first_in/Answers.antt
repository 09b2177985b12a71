use Rattle.std.proofs.Common.{ap, ◌∙◌, arith}
use Rattle.sym_judge.specs.internal.Tables.{words_at}
use Rattle.sym_judge.proofs.RuleAliasLemmas.{one_place}
use Rattle.sym_judge.proofs.rule_aliases.first_in.Goals as goal

pub returns : goal.returns
returns c = λ own lines are. are c.partition_point-at.result _ (omega arith) ∙ ap (words_at lines) (one_place _ c.args.place (omega arith) (omega arith))
