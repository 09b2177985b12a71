-- The records of a module: those of its symbol file. Their addresses count from the module's base.
use Rattle.std.specs.Prelude.{ℕ, ◌-◌, nat_le, if◌then◌else◌, List, Option, None}
use Rattle.sym_records.specs.declared.line.SymLine.{SymLine}
use Rattle.sym_rules.specs.declared.rules.RuleText.{RuleText}
use Rattle.cfi_eval.specs.TextRules.{text_rules}
use Rattle.sym_lookup.specs.Answers.{answer_of}
use Rattle.sym_lookup.specs.declared.answers.Answer.{Answer}
use Rattle.sym_lookup.specs.declared.answers.Answer.TheVariants.{Nothing}

pub record ModuleRecords : Type 0 where
  pub base : ℕ
  pub lines : List SymLine

-- the rules at an address of the process; there are none below the base
abbrev pub rules_in : ModuleRecords → ℕ → Option (List RuleText)
rules_in records a = if nat_le records.base a then text_rules records.lines (a - records.base) else None

-- which records name an address of the process
abbrev pub answer_in : ModuleRecords → ℕ → Answer
answer_in records a = if nat_le records.base a then answer_of records.lines (a - records.base) else Nothing
