-- The rules that apply at an address in a symbol file (Breakpad's symbol_files.md, "STACK CFI INIT"
-- and "STACK CFI").
use Rattle.std.specs.Prelude.{ℕ, ◌+◌, ◌&&◌, nat_lt, nat_le, Bool, true, false, if◌then◌else◌, List, [], ◌∷◌, ◌++◌, ◌==◌, Option, None, Some}
use Rattle.std.specs.Option.{option_or}
use Rattle.std.specs.Str.{bytes_eq}
use Rattle.sym_records.specs.declared.line.SymLine.{SymLine}
use Rattle.sym_records.specs.declared.line.SymLine.TheVariants.{Init, Change}
use Rattle.sym_rules.specs.declared.rules.Target.{Target}
use Rattle.sym_rules.specs.declared.rules.Target.TheVariants.{Cfa, Ra, Reg, Other}
use Rattle.sym_rules.specs.declared.rules.Token.{Token}
use Rattle.sym_rules.specs.declared.rules.RuleText.{RuleText}

-- the rules of the STACK CFI records at the start of the list, as far as their addresses are at or
-- below x
unfoldable pub changes_until : ℕ → List SymLine → List RuleText
changes_until x [] = []
changes_until x (Change address rules ∷ lines) = (if nat_le address x then rules else []) ++ changes_until x lines
changes_until x (line ∷ lines) = []

-- whether an INIT covers the address x
abbrev pub covers : ℕ → ℕ → ℕ → Bool
covers x address size = nat_le address x && nat_lt x (address + size)

-- the rules of the first INIT that covers the address, followed by the rules of its changes up to that address
unfoldable pub text_rules : List SymLine → ℕ → Option (List RuleText)
text_rules [] x = None
text_rules (Init address size rules ∷ lines) x = if covers x address size then Some (rules ++ changes_until x lines) else text_rules lines x
text_rules (line ∷ lines) x = text_rules lines x

-- whether two targets are the same
abbrev pub same_target : Target → Target → Bool
same_target Cfa Cfa = true
same_target Ra Ra = true
same_target (Reg a) (Reg b) = a == b
same_target (Other a) (Other b) = bytes_eq a b
same_target _ _ = false

-- the words of the last rule with a target; so a later rule overrides an earlier one
unfoldable pub rule_for : Target → List RuleText → Option (List Token)
rule_for t [] = None
rule_for t (rule ∷ rules) = option_or (rule_for t rules) (if same_target rule.target t then Some rule.tokens else None)
