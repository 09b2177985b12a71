-- The words of an expression while they are added.
use Rattle.std.specs.Prelude.{ℕ, List, [], ◌∷◌, ◌++◌, length, Option, None, Some}
use Rattle.sym_rules.specs.declared.rules.Token.{Token}
use Rattle.sym_rules.specs.declared.rules.Token.TheVariants as token
use Rattle.expr_steps.specs.declared.step.Step.{Step}
use Rattle.expr_steps.specs.declared.standing.Standing.{Standing}
use Rattle.expr_steps.specs.declared.standing.Standing.TheVariants.{Free, OverCfa}
use Rattle.expr_postfix.specs.ExprTokens.{steps_tokens}

-- the first words of an expression
abbrev pub first_tokens : Standing → List Token
first_tokens Free = []
first_tokens OverCfa = token.Cfa ∷ []

-- the words so far, and then those of the steps that are left; none if the bytes that are left are
-- not made of steps
abbrev pub added : Option (List Step) → List Token → Option (List Token)
added None held = None
added (Some left) held = Some (held ++ steps_tokens left)

-- how many steps are left
abbrev pub count_left : Option (List Step) → ℕ
count_left None = 0
count_left (Some left) = length left
