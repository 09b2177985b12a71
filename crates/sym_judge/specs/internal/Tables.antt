-- The last rule of each target among some rules, by the places of the rules.
use Rattle.std.specs.Prelude.{◌≡◌, ℕ, ◌<◌, List, [], ◌++◌, length, drop, get_or, Option, None, Some, slice_get}
use Rattle.std.specs.Option.{option_map, option_and_then}
use Rattle.sym_records.specs.declared.line.SymLine.{SymLine}
use Rattle.sym_records.specs.declared.line.SymLine.TheVariants.{Init, Change}
use Rattle.sym_rules.specs.declared.rules.Target.TheVariants as target
use Rattle.sym_rules.specs.declared.rules.Token.{Token}
use Rattle.sym_rules.specs.declared.rules.RuleText.{RuleText}
use Rattle.cfi_eval.specs.TextRules.{rule_for, changes_until, text_rules}
use Rattle.sym_judge.specs.declared.rule_tables.RulePlace.{RulePlace}
use Rattle.sym_judge.specs.declared.rule_tables.RuleTable.{RuleTable}

-- the rules of a record
abbrev pub rules_of : SymLine → List RuleText
rules_of (Init address size rules) = rules
rules_of (Change address rules) = rules
rules_of _ = []

abbrev pub rules_or : Option SymLine → List RuleText
rules_or None = []
rules_or (Some line) = rules_of line

abbrev pub rules_at : List SymLine → ℕ → List RuleText
rules_at lines line = rules_or (slice_get lines line)

-- the words of the rule at a place
abbrev pub words_at : List SymLine → RulePlace → Option (List Token)
words_at lines place = option_map (λ (r : RuleText). r.tokens) (slice_get (rules_at lines place.line) place.rule)

abbrev pub words_in : List SymLine → Option RulePlace → Option (List Token)
words_in lines place = option_and_then (words_at lines) place

pub record IsTable (lines : List SymLine) (rules : List RuleText) (table : RuleTable) : Type 0 where
  pub cfa : words_in lines table.cfa ≡ rule_for target.Cfa rules
  pub ra : words_in lines table.ra ≡ rule_for target.Ra rules
  pub many : length table.registers ≡ 16
  pub registers : (k : ℕ) → k < 16 → words_in lines (get_or table.registers k None) ≡ rule_for (target.Reg k) rules

-- a table of the rules that count at an address, if an INIT covers it
pub record IsTableAt (lines : List SymLine) (x : ℕ) (table : RuleTable) : Type 0 where
  pub rules : List RuleText
  pub is : text_rules lines x ≡ Some rules
  pub table_is : IsTable lines rules table

-- a table of the rules of an INIT and of the first of its changes; the other changes begin at a
-- place
pub record IsTableUpTo (lines : List SymLine) (x place : ℕ) (table : RuleTable) : Type 0 where
  pub done : List RuleText
  pub is : text_rules lines x ≡ Some (done ++ changes_until x (drop place lines))
  pub table_is : IsTable lines done table
