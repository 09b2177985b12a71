use Rattle.sym_rules.specs.RuleReading.{words, target_at}
use Rattle.sym_grammar.proofs.NumberLemmas.{not_empty}
use Rattle.sym_grammar.proofs.RunLemmas.{pass_on, target_stopped, tokens_stopped}
use Rattle.sym_grammar.specs.internal.Runs.{token_run, rule_run}
use Rattle.sym_grammar.proofs.rules.rule_at.Goals as goal

pub returns-in-Err-clause-rule : goal.returns-in-Err-clause-rule
returns-in-Err-clause-rule c =
    pass_on c.in-Err.stop _ _ (target_at c.cut_word.result.0.now) (rule_run (words c.args.bytes.now))
    (λ kind read. target_stopped c.args.bytes.now c.skip_spaces-field.result.now c.cut_word.result.0.now kind c.skip_spaces-field.ensures.skipped (not_empty _ c.if-is_empty.ensures) c.cut_word.ensures.word read)
    c.in-Err.ensures

pub returns-in-Err-tokens_at-clause-rule : goal.returns-in-Err-tokens_at-clause-rule
returns-in-Err-tokens_at-clause-rule c =
    pass_on c.in-Err-tokens_at.stop _ _ (token_run (words c.cut_word.result.1.now)) (rule_run (words c.args.bytes.now))
    (λ kind read. tokens_stopped c.args.bytes.now c.skip_spaces-field.result.now c.cut_word.result.0.now c.cut_word.result.1.now c.in-Ok.target kind c.skip_spaces-field.ensures.skipped (not_empty _ c.if-is_empty.ensures) c.cut_word.ensures.word c.cut_word.ensures.rest c.in-Ok.ensures read)
    c.in-Err-tokens_at.ensures.tokens
