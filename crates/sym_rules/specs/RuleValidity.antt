-- Which frame rules a line can spell.
use Rattle.std.specs.Prelude.{ℕ, ◌==◌, ◌&&◌, Bool, true, false, not, nat_lt, nat_le, List, ◌∷◌, length, codes}
use Rattle.std.specs.List.{list_all, list_any}
use Rattle.std.specs.Str.{bytes_eq}
use Rattle.sym_rules.specs.Cuts.{is_within_field, last_is}
use Rattle.sym_edges.specs.Abi.{register_names}
use Rattle.sym_edges.specs.Integers.{fits_i64}
use Rattle.sym_rules.specs.RuleReading.{is_symbol}
use Rattle.sym_rules.specs.declared.rules.Target.{Target}
use Rattle.sym_rules.specs.declared.rules.Target.TheVariants as target
use Rattle.sym_rules.specs.declared.rules.Token.{Token}
use Rattle.sym_rules.specs.declared.rules.Token.TheVariants as token
use Rattle.sym_rules.specs.declared.rules.RuleText.{RuleText}

-- a name in a rule that is none of the `known` names
unfoldable pub is_other : List (List ℕ) → List ℕ → Bool
is_other known name = list_all is_within_field name && is_symbol name && not (list_any (bytes_eq name) known)

-- the names of targets that are not stored as `Other`
abbrev pub target_names : List (List ℕ)
target_names = codes ".cfa" ∷ codes ".ra" ∷ register_names

-- the names of tokens that are not stored as `Other`
abbrev pub token_names : List (List ℕ)
token_names = codes ".cfa" ∷ codes ".undef" ∷ register_names

-- a target that a word can spell
abbrev pub is_target : Target → Bool
is_target target.Cfa = true
is_target target.Ra = true
is_target (target.Reg number) = nat_lt number 16
is_target (target.Other name) = is_other target_names name

-- a token that a word can spell
abbrev pub is_token : Token → Bool
is_token (token.Number n) = fits_i64 n
is_token (token.Reg number) = nat_lt number 16
is_token token.Cfa = true
is_token token.Undef = true
is_token (token.Other name) = is_other token_names name
is_token token.Add = true
is_token token.Sub = true
is_token token.Mul = true
is_token token.Div = true
is_token token.Rem = true
is_token token.Align = true
is_token token.Fetch = true

-- a rule that words can spell; it has at least one token
unfoldable pub is_rule : RuleText → Bool
is_rule rule = is_target rule.target && nat_lt 0 (length rule.tokens) && list_all is_token rule.tokens

-- a token that is a name with CR as its last byte
abbrev pub ends_in_cr : Token → Bool
ends_in_cr (token.Number n) = false
ends_in_cr (token.Reg number) = false
ends_in_cr token.Cfa = false
ends_in_cr token.Undef = false
ends_in_cr (token.Other name) = last_is (λ b. b == 13) name
ends_in_cr token.Add = false
ends_in_cr token.Sub = false
ends_in_cr token.Mul = false
ends_in_cr token.Div = false
ends_in_cr token.Rem = false
ends_in_cr token.Align = false
ends_in_cr token.Fetch = false

-- whether the last token of the last rule is a name with CR as its last byte
unfoldable pub end_in_cr : List RuleText → Bool
end_in_cr rules = last_is (λ rule. last_is ends_in_cr rule.tokens) rules

-- whether a record can have these rules: there is at least one, words can spell each, and the line
-- does not end in CR
unfoldable pub are_rules : List RuleText → Bool
are_rules rules = nat_lt 0 (length rules) && list_all is_rule rules && not (end_in_cr rules)

-- a target that a word can spell and that is not `Other`
abbrev pub is_plain_target : Target → Bool
is_plain_target target.Cfa = true
is_plain_target target.Ra = true
is_plain_target (target.Reg number) = nat_lt number 16
is_plain_target (target.Other name) = false

-- a token that a word can spell and that is not `Other`
abbrev pub is_plain_token : Token → Bool
is_plain_token (token.Number n) = fits_i64 n
is_plain_token (token.Reg number) = nat_lt number 16
is_plain_token token.Cfa = true
is_plain_token token.Undef = true
is_plain_token (token.Other name) = false
is_plain_token token.Add = true
is_plain_token token.Sub = true
is_plain_token token.Mul = true
is_plain_token token.Div = true
is_plain_token token.Rem = true
is_plain_token token.Align = true
is_plain_token token.Fetch = true

-- a rule whose target is not `Other` and that has one to four tokens, none of which is `Other`
unfoldable pub is_plain_rule : RuleText → Bool
is_plain_rule rule =
    is_plain_target rule.target && nat_lt 0 (length rule.tokens) && nat_le (length rule.tokens) 4 && list_all is_plain_token rule.tokens
