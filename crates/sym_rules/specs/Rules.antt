-- The words of a frame rule (Breakpad's symbol_files.md): the name of the target with `:` after it,
-- and then the words of a postfix expression.
use Rattle.std.specs.Prelude.{ℕ, List, [], ◌∷◌, ◌++◌, map, codes}
use Rattle.std.specs.List.{flat_map}
use Rattle.std.specs.Fmt.{signed_decimal}
use Rattle.sym_edges.specs.Abi.{register_name}
use Rattle.sym_rules.specs.declared.rules.Target.{Target}
use Rattle.sym_rules.specs.declared.rules.Target.TheVariants as target
use Rattle.sym_rules.specs.declared.rules.Token.{Token}
use Rattle.sym_rules.specs.declared.rules.Token.TheVariants as token
use Rattle.sym_rules.specs.declared.rules.RuleText.{RuleText}

-- the name of a target
abbrev pub target_name : Target → List ℕ
target_name target.Cfa = codes ".cfa"
target_name target.Ra = codes ".ra"
target_name (target.Reg number) = register_name number
target_name (target.Other name) = name

-- the word of a token; an integer is decimal, with `-` if it is negative
abbrev pub token_word : Token → List ℕ
token_word (token.Number n) = signed_decimal n
token_word (token.Reg number) = register_name number
token_word token.Cfa = codes ".cfa"
token_word token.Undef = codes ".undef"
token_word (token.Other name) = name
token_word token.Add = codes "+"
token_word token.Sub = codes "-"
token_word token.Mul = codes "*"
token_word token.Div = codes "/"
token_word token.Rem = codes "%"
token_word token.Align = codes "@"
token_word token.Fetch = codes "^"

-- the word that begins a rule: the target's name, then `:`
abbrev pub target_word : Target → List ℕ
target_word target = target_name target ++ 58 ∷ []

-- the words of a rule
abbrev pub rule_words : RuleText → List (List ℕ)
rule_words rule = target_word rule.target ∷ map token_word rule.tokens

-- a token with one space before it
abbrev pub spelled_token : Token → List ℕ
spelled_token t = 32 ∷ token_word t

-- a rule with one space before each word
unfoldable pub spelled_rule : RuleText → List ℕ
spelled_rule rule = (32 ∷ target_word rule.target) ++ flat_map spelled_token rule.tokens

-- rules one after another, with one space before each word
unfoldable pub spelled_rules : List RuleText → List ℕ
spelled_rules rules = flat_map spelled_rule rules
