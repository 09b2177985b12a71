-- The limits of a row's rules: few words, and no `Other` name except that of rip.
use Rattle.std.specs.Prelude.{◌&&◌, Bool, nat_lt, nat_le, length}
use Rattle.std.specs.List.{list_all}
use Rattle.sym_rules.specs.RuleValidity.{is_plain_target}
use Rattle.sym_rules.specs.declared.rules.RuleText.{RuleText}
use Rattle.expr_postfix.specs.ExprTokens.{is_expr_word}

-- a rule has a plain target and 1 to 1,025 words: those of an expression are at most 1,024, and `^`
-- may follow
unfoldable pub is_long_rule : RuleText → Bool
is_long_rule rule =
    is_plain_target rule.target && (nat_lt 0 (length rule.tokens) && (nat_le (length rule.tokens) 1025 && list_all is_expr_word rule.tokens))
