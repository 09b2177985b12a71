use Rattle.func_flatten.proofs.NameLemmas.{unjoined}
use Rattle.func_flatten.proofs.scope_keys.ScopeKeys.front.Goals as goal

pub returns-then-not-is_joined-clause-key : goal.returns-then-not-is_joined-clause-key
returns-then-not-is_joined-clause-key c = unjoined c.args.units.now c.empty.result c.args.name c.args.is_joined c.if-not-is_joined.true (c.empty.ensures c.args.units.now)
