-- The words of a rule that express a DWARF expression (Breakpad's symbol_files.md, "STACK CFI"), step by step.
use Rattle.std.specs.Prelude.{ℕ, ◌%◌, ◌^◌, ◌==◌, Bool, if◌then◌else◌, List, [], ◌∷◌, ◌++◌, codes, Option, None, Some}
use Rattle.std.specs.Int.{w64, cast_signed}
use Rattle.std.specs.List.{flat_map}
use Rattle.std.specs.Option.{option_and_then}
use Rattle.std.specs.Str.{bytes_eq}
use Rattle.sym_rules.specs.RuleValidity.{is_plain_token}
use Rattle.sym_rules.specs.declared.rules.Token.{Token}
use Rattle.sym_rules.specs.declared.rules.Token.TheVariants as token
use Rattle.expr_steps.specs.declared.step.Step.{Step}
use Rattle.expr_steps.specs.declared.step.Step.TheVariants.{Constant, Register, Fetch, Add, Subtract, Multiply, AddConstant, Remainder, Product, Reaches}
use Rattle.expr_steps.specs.declared.standing.Standing.{Standing}
use Rattle.expr_steps.specs.declared.standing.Standing.TheVariants.{Free, OverCfa}
use Rattle.expr_steps.specs.Steps.{steps}
use Rattle.expr_steps.specs.Standing.{standing_of}

-- a number below 2^64 as a signed integer of 64 bits, as rules write it
abbrev pub number : ℕ → Token
number n = token.Number (cast_signed w64 (n % 2 ^ 64))

-- a register by its DWARF number; 16 is rip, which rules name and do not number
abbrev pub register_token : ℕ → Token
register_token register = if register == 16 then token.Other (codes "$rip") else token.Reg register

-- the words of a step
abbrev pub step_tokens : Step → List Token
step_tokens (Constant value) = number value ∷ []
step_tokens (Register register offset) = register_token register ∷ token.Number offset ∷ token.Add ∷ []
step_tokens Fetch = token.Fetch ∷ []
step_tokens Add = token.Add ∷ []
step_tokens Subtract = token.Sub ∷ []
step_tokens Multiply = token.Mul ∷ []
step_tokens (AddConstant addend) = number addend ∷ token.Add ∷ []
step_tokens (Remainder size) = number size ∷ token.Rem ∷ []
step_tokens (Product factor) = number factor ∷ token.Mul ∷ []
step_tokens (Reaches lift size) = number lift ∷ token.Add ∷ number size ∷ token.Div ∷ []

-- the words of all steps
unfoldable pub steps_tokens : List Step → List Token
steps_tokens given = flat_map step_tokens given

-- the words of an expression, given its steps; if it needs the CFA below its own values, its first word is `.cfa`
abbrev pub tokens_by : List Step → Option Standing → Option (List Token)
tokens_by given None = None
tokens_by given (Some Free) = Some (steps_tokens given)
tokens_by given (Some OverCfa) = Some (token.Cfa ∷ steps_tokens given)

-- the words of an expression, or none if rule text cannot express it; `start` says that the CFA may be on the stack
unfoldable pub expr_tokens : Bool → List ℕ → Option (List Token)
expr_tokens start bytes = option_and_then (λ given. tokens_by given (standing_of start given)) (steps bytes)

-- the words of a rule whose value is that of the expression or, if `fetch`, the word in memory at that address
abbrev pub with_fetch : Bool → Option (List Token) → Option (List Token)
with_fetch fetch None = None
with_fetch fetch (Some given) = Some (if fetch then given ++ token.Fetch ∷ [] else given)

unfoldable pub rule_tokens : Bool → Bool → List ℕ → Option (List Token)
rule_tokens start fetch bytes = with_fetch fetch (expr_tokens start bytes)

-- a token that an expression may have: one that a word can spell, and no `Other` name except that of rip
abbrev pub is_expr_word : Token → Bool
is_expr_word (token.Other name) = bytes_eq name (codes "$rip")
is_expr_word word = is_plain_token word
