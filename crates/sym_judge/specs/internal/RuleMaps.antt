-- The last rule of each target of an INIT and its changes, as maps from addresses.
use Rattle.std.specs.Prelude.{◌≡◌, ℕ, ◌+◌, ◌<◌, ◌^◌, nat_le, if◌then◌else◌, List, [], ◌∷◌, ◌++◌, length, drop, reverse, get_or, Option, None, slice_get}
use Rattle.std.specs.List.{find, All}
use Rattle.std.specs.Option.{option_map, option_and_then}
use Rattle.sym_records.specs.declared.line.SymLine.{SymLine}
use Rattle.sym_rules.specs.declared.rules.Target.{Target}
use Rattle.sym_rules.specs.declared.rules.Target.TheVariants as target
use Rattle.sym_rules.specs.declared.rules.RuleText.{RuleText}
use Rattle.cfi_eval.specs.TextRules.{rule_for, changes_until}
use Rattle.step_maps.specs.declared.stretch.Stretch.{Stretch}
use Rattle.step_maps.specs.declared.stretch.FirstItem.{FirstItem}
use Rattle.step_maps.specs.Covers.{reaches}
use Rattle.step_maps.specs.Stepping.{Stepping, value_at}
use Rattle.sym_judge.specs.declared.rule_tables.RulePlace.{RulePlace}
use Rattle.sym_judge.specs.declared.rule_maps.RuleMaps.{RuleMaps}
use Rattle.sym_judge.specs.internal.Tables.{rules_at, words_in}

-- the index of an item is the record of a rule, and the item's class is the rule's place in that record
abbrev pub place_of : Stretch → RulePlace
place_of s = record { line = s.index; rule = s.class }

abbrev pub place_in : FirstItem → RulePlace
place_in i = record { line = i.index; rule = i.class }

-- the rule that a map has at an address
abbrev pub rule_in : Stepping (Option FirstItem) → ℕ → Option RulePlace
rule_in map x = option_map place_in (value_at None map x)

-- the last of the items that contain an address
unfoldable pub last_rule : List Stretch → ℕ → Option RulePlace
last_rule items x = option_map place_of (find (λ s. reaches s x) (reverse items))

-- the rules that count at each address, with one more rule, or with those of a record, which count
-- from an address on
abbrev pub with_rule : ℕ → RuleText → (ℕ → List RuleText) → ℕ → List RuleText
with_rule start rule done x = done x ++ (if nat_le start x then rule ∷ [] else [])

abbrev pub with_rules : ℕ → List RuleText → (ℕ → List RuleText) → ℕ → List RuleText
with_rules start rules done x = done x ++ (if nat_le start x then rules else [])

-- at each address, the last of the items that contain it has the words of the target's last rule
abbrev pub AreLast : List SymLine → Target → List Stretch → (ℕ → List RuleText) → Type 0
AreLast lines t items done = (x : ℕ) → x < 2 ^ 64 → words_in lines (last_rule items x) ≡ rule_for t (done x)

-- the rules of the INIT at a place, and those of its changes up to an address
abbrev pub counted : List SymLine → ℕ → ℕ → List RuleText
counted lines init x = rules_at lines init ++ changes_until x (drop (init + 1) lines)

pub record IsRuleMap (lines : List SymLine) (init : ℕ) (t : Target) (map : Stepping (Option FirstItem)) : Type 0 where
  pub rules : (x : ℕ) → x < 2 ^ 64 → words_in lines (rule_in map x) ≡ rule_for t (counted lines init x)

-- the place of a register's rule at an address, by the map of the register
unfoldable pub register_rule : List (Stepping (Option FirstItem)) → ℕ → ℕ → Option RulePlace
register_rule maps k x = option_and_then (λ (m : Stepping (Option FirstItem)). rule_in m x) (slice_get maps k)

pub record AreRegisterMaps (lines : List SymLine) (init : ℕ) (maps : List (Stepping (Option FirstItem))) : Type 0 where
  pub rules : (k : ℕ) → k < length maps → (x : ℕ) → x < 2 ^ 64 → words_in lines (register_rule maps k x) ≡ rule_for (target.Reg k) (counted lines init x)

-- the list has the rules of all registers below a number
pub record AreRegisterRules (maps : List (Stepping (Option FirstItem))) (x count : ℕ) (registers : List (Option RulePlace)) : Type 0 where
  pub many : length registers ≡ 16
  pub rules : (k : ℕ) → k < count → get_or registers k None ≡ register_rule maps k x

pub record AreRuleMaps (lines : List SymLine) (maps : RuleMaps) : Type 0 where
  pub cfa : IsRuleMap lines maps.init target.Cfa maps.cfa
  pub ra : IsRuleMap lines maps.init target.Ra maps.ra
  pub many : length maps.registers.items ≡ 16
  pub registers : AreRegisterMaps lines maps.init maps.registers.items

abbrev pub AreAllRuleMaps : List SymLine → List RuleMaps → Type 0
AreAllRuleMaps lines all = All (AreRuleMaps lines) all
