use Rattle.std.proofs.Common.{sym}
use Rattle.sym_rules.specs.RuleReading.{words, token_at}
use Rattle.sym_grammar.proofs.NumberLemmas.{not_empty}
use Rattle.sym_grammar.proofs.RunLemmas.{pass_next, run_stopped}
use Rattle.sym_grammar.proofs.rules.next_token.Goals as goal

pub returns-in-Err-clause-next : goal.returns-in-Err-clause-next
returns-in-Err-clause-next c =
    pass_next c.in-Err.stop _ (token_at c.cut_word.result.0.now) _ _ (words c.args.bytes.now)
    (λ kind read. run_stopped c.args.bytes.now c.skip_spaces-field.result.now c.cut_word.result.0.now kind c.skip_spaces-field.ensures.skipped (not_empty _ c.if-is_empty.ensures) c.cut_word.ensures.word (sym c.if-ends_in_colon.ensures) read)
    c.in-Err.ensures
