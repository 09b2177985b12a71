-- What a proof unfolds to compute the definitions of this crate where the input is written out.
use Rattle.std.specs.Prelude.{⊤}
use Rattle.std.specs.Fmt.{digits}
use Rattle.sym_edges.specs.Abi.{register_names, register_name}
use Rattle.sym_rules.specs.Cuts.{before, from, skip, trim_end, split_lines, last_is}
use Rattle.sym_rules.specs.RuleReading.{words, groups, is_symbol, register_of, named_target, target_at, are_digits, integer_of, sign_of, named_token, token_at, each, rule_at, rules_at}
use Rattle.sym_rules.specs.RuleValidity.{is_other, is_rule, end_in_cr, are_rules, is_plain_rule}
use Rattle.sym_rules.specs.Rules.{spelled_rule, spelled_rules}

unfoldable pub sym_rules_computes : ⊤
unfolding digits register_names register_name before from skip trim_end split_lines last_is words groups is_symbol register_of named_target target_at are_digits integer_of sign_of named_token token_at each rule_at rules_at is_other is_rule end_in_cr are_rules is_plain_rule spelled_rule spelled_rules
sym_rules_computes = tt
