use Rattle.sym_rules.proofs.RegisterLemmas.{none_without_name}
use Rattle.sym_rules.proofs.registers.register_of.Goals as goal

pub returns-in_default : goal.returns-in_default
returns-in_default c = none_without_name c.args.name.now c.in_default.ensures.cases
