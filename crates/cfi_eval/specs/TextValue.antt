-- The values that the rules of a symbol file give at an address, given registers and memory: first
-- the CFA, then the caller's return address and registers (Breakpad's symbol_files.md, "STACK
-- CFI"). Registers without a rule follow the System V ABI for AMD64, section 3.2.1.
use Rattle.std.specs.Prelude.{ℕ, List, map, Option, None, Some, Result, Ok, Err}
use Rattle.std.specs.List.{range_with_len}
use Rattle.std.specs.Option.{option_map}
use Rattle.sym_edges.specs.Abi.{Default, KeepsValue, IsCfa, Unspecified, default_of}
use Rattle.sym_records.specs.declared.line.SymLine.{SymLine}
use Rattle.sym_rules.specs.declared.rules.Target.TheVariants.{Cfa, Ra, Reg}
use Rattle.sym_rules.specs.declared.rules.Token.{Token}
use Rattle.sym_rules.specs.declared.rules.RuleText.{RuleText}
use Rattle.cfi_eval.specs.declared.registers.Regs.{Regs}
use Rattle.cfi_eval.specs.declared.memory.MemRun.{MemRun}
use Rattle.cfi_eval.specs.declared.outcome.Cause.{Cause}
use Rattle.cfi_eval.specs.declared.outcome.Outcome.{Outcome}
use Rattle.cfi_eval.specs.declared.outcome.Outcome.TheVariants.{Value, Undefined, Failed}
use Rattle.cfi_eval.specs.declared.outcome.Frame.{Frame}
use Rattle.cfi_eval.specs.Postfix.{register_value, rule_value}
use Rattle.cfi_eval.specs.TextRules.{text_rules, rule_for}

abbrev pub outcome_of : Result ℕ Cause → Outcome
outcome_of (Ok v) = Value v
outcome_of (Err why) = Failed why

-- the CFA, given the words of its rule. Inside this rule `.cfa` has no value; without a rule the
-- CFA is undefined
abbrev pub cfa_by : Regs → List MemRun → Option (List Token) → Outcome
cfa_by regs memory None = Undefined
cfa_by regs memory (Some tokens) = rule_value regs memory None tokens

unfoldable pub text_cfa : Regs → List MemRun → List RuleText → Outcome
text_cfa regs memory rules = cfa_by regs memory (rule_for Cfa rules)

-- the return address, given the words of its rule; without a rule it is undefined
abbrev pub ra_by : Regs → List MemRun → Outcome → Option (List Token) → Outcome
ra_by regs memory cfa None = Undefined
ra_by regs memory cfa (Some tokens) = rule_value regs memory (Some cfa) tokens

unfoldable pub text_ra : Regs → List MemRun → List RuleText → Outcome
text_ra regs memory rules = ra_by regs memory (text_cfa regs memory rules) (rule_for Ra rules)

-- the value of a register without a rule. A register that a call preserves has its present value,
-- rsp is the CFA, and all others are undefined
abbrev pub default_value : Regs → Outcome → Default → ℕ → Outcome
default_value regs cfa KeepsValue register = outcome_of (register_value regs register)
default_value regs cfa IsCfa register = cfa
default_value regs cfa Unspecified register = Undefined

abbrev pub register_by : Regs → List MemRun → Outcome → ℕ → Option (List Token) → Outcome
register_by regs memory cfa register None = default_value regs cfa (default_of register) register
register_by regs memory cfa register (Some tokens) = rule_value regs memory (Some cfa) tokens

unfoldable pub text_register : Regs → List MemRun → List RuleText → ℕ → Outcome
text_register regs memory rules register = register_by regs memory (text_cfa regs memory rules) register (rule_for (Reg register) rules)

-- the CFA, the return address and the registers together
unfoldable pub frame_of : Regs → List MemRun → List RuleText → Frame
frame_of regs memory rules = record {
  cfa = text_cfa regs memory rules;
  ra = text_ra regs memory rules;
  regs = map (text_register regs memory rules) (range_with_len 0 16);
}

-- the values at an address, or `None` if no INIT covers it
unfoldable pub text_frame : List SymLine → ℕ → Regs → List MemRun → Option Frame
text_frame lines x regs memory = option_map (frame_of regs memory) (text_rules lines x)
