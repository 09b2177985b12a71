use Rattle.std.proofs.Common.{ap, ◌∙◌, arith}
use Rattle.sym_judge.specs.internal.Aliases.{name_of}
use Rattle.sym_judge.proofs.aliases.first_in.Goals as goal

pub returns : goal.returns
returns c = λ numbered own lines are. are.all c.partition_point-at.result _ (omega arith) ∙ ap (name_of numbered lines) (omega arith)
