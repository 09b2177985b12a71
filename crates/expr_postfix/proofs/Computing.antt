-- The definitions of this crate that a proof unfolds to compute a result from given bytes.
use Rattle.std.specs.Prelude.{⊤}
use Rattle.sym_edges.proofs.Shown.{shown}
use Rattle.cfi_eval.proofs.Computing.{cfi_eval_computes}
use Rattle.expr_steps.proofs.Computing.{expr_steps_computes}
use Rattle.expr_postfix.specs.ExprTokens.{steps_tokens, expr_tokens, rule_tokens}
use Rattle.expr_postfix.specs.ExprValue.{with_operation, value_over, expr_value}

unfoldable pub expr_postfix_computes : ⊤
unfolding shown cfi_eval_computes expr_steps_computes steps_tokens expr_tokens rule_tokens with_operation value_over expr_value
expr_postfix_computes = tt
