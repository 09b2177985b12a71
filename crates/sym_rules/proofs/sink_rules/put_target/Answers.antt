use Rattle.sym_rules.proofs.SpellingLemmas.{target_hands, target_off}
use Rattle.sym_rules.proofs.sink_rules.put_target.Goals as goal

pub returns-in-Err : goal.returns-in-Err
returns-in-Err g c = target_off c.args.target.now _ _ _ _ _ _ _ _ _ _ c.target_name.ensures c.in-Err.ensures

pub returns : goal.returns
returns g c = target_hands c.args.target.now _ _ _ _ _ _ _ _ _ _ _ _ c.target_name.ensures c.in-Ok.ensures c.put.ensures
