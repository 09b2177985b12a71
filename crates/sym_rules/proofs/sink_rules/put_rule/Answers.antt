use Rattle.sym_rules.proofs.SpellingLemmas.{rule_hands, rule_off}
use Rattle.sym_rules.proofs.sink_rules.put_rule.Goals as goal

pub returns-in-Err : goal.returns-in-Err
returns-in-Err g c = rule_off c.args.rule.now _ _ _ _ _ _ _ _ _ c.in-Err.ensures

pub returns : goal.returns
returns g c = rule_hands c.args.rule.now _ _ _ _ _ _ _ _ _ _ _ _ c.as_slice.ensures c.in-Ok.ensures c.put_tokens.ensures
