use Rattle.func_flatten.proofs.FrontLemmas.{fronts_none}
use Rattle.func_flatten.proofs.scope_keys.ScopeKeys.new.Goals as goal

pub returns : goal.returns
returns c = λ units. fronts_none units c.new.result c.new.ensures.empty
