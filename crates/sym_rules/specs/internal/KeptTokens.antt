-- The words of a postfix expression, in whichever form they are stored.
use Rattle.std.specs.Prelude.{List}
use Rattle.sym_rules.specs.declared.rules.Token.{Token}
use Rattle.sym_rules.specs.declared.rules.KeptTokens.{KeptTokens}
use Rattle.sym_rules.specs.declared.rules.KeptTokens.TheVariants.{One, Three, Four, Many}

-- the words in order
abbrev pub kept_tokens : KeptTokens → List Token
kept_tokens (One tokens) = tokens
kept_tokens (Three tokens) = tokens
kept_tokens (Four tokens) = tokens
kept_tokens (Many tokens) = tokens.items
