use Rattle.sym_rules.specs.RuleReading.{words, rules_at}
use Rattle.sym_grammar.proofs.NumberLemmas.{not_empty}
use Rattle.sym_grammar.proofs.RunLemmas.{pass_on, rules_fault}
use Rattle.sym_grammar.specs.internal.Runs.{rule_run}
use Rattle.sym_grammar.proofs.rules.rules_at.Goals as goal

pub returns-in-Err : goal.returns-in-Err
returns-in-Err c =
    pass_on c.in-Err.stop _ _ (rule_run (words c.turns.rest.now)) (rules_at c.args.bytes.now)
    (λ kind read. rules_fault c.args.bytes.now c.turns.rest.now c.turns.rules.items kind c.turns.invariant.stays (not_empty _ c.turns-test.ensures) read c.turns.invariant.so_far)
    c.in-Err.ensures.rule
