-- Tables of the rules of a frame, by target: the registers by their numbers, then the CFA and the
-- return address.
use Rattle.std.specs.Prelude.{◌≡◌, ℕ, nat_lt, if◌then◌else◌, List, Option, None, Some, IfSome, slice_get}
use Rattle.std.specs.Option.{option_copied, option_and_then}
use Rattle.std.specs.Borrow.{Bor}
use Rattle.sym_rules.specs.declared.rules.Target.{Target}
use Rattle.sym_rules.specs.declared.rules.Target.TheVariants.{Cfa, Ra, Reg, Other}
use Rattle.sym_rules.specs.declared.rules.Token.{Token}
use Rattle.sym_rules.specs.declared.rules.RuleText.{RuleText}
use Rattle.cfi_eval.specs.TextRules.{same_target}

abbrev pub target_place : Target → Option ℕ
target_place (Reg register) = if nat_lt register 16 then Some register else None
target_place Cfa = Some 16
target_place Ra = Some 17
target_place (Other name) = None

-- the words of a rule, if it has the target
abbrev pub rule_in : Target → RuleText → Option (List Token)
rule_in t rule = if same_target rule.target t then Some rule.tokens else None

-- the words at a place in a table
abbrev pub words_at : List (Option (Bor (List Token))) → ℕ → Option (List Token)
words_at table place = option_and_then option_copied (slice_get table place)

-- for each target t that has a place, the table has `find t` at this place
abbrev pub IsTable : (Target → Option (List Token)) → List (Option (Bor (List Token))) → Type 0
IsTable find table = (t : Target) → IfSome (target_place t) (λ place. words_at table place ≡ find t)
