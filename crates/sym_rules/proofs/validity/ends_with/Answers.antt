use Rattle.std.proofs.Common.{◌==◌}
use Rattle.sym_rules.proofs.LastLemmas.{last_some, last_missing}
use Rattle.sym_rules.proofs.validity.ends_with.Goals as goal

pub returns-in-Some : goal.returns-in-Some
returns-in-Some c = last_some (λ b. b == c.args.last) c.args.bytes.now c.in-Some.b.now c.in-Some.ensures.value

pub returns-in-None : goal.returns-in-None
returns-in-None c = last_missing (λ b. b == c.args.last) c.args.bytes.now c.in-None.ensures.value
