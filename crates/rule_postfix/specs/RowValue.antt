-- The values that a row gives the caller's registers, given registers and memory (DWARF 5, sections
-- 6.4.1 and 6.4.4), by the kind of each rule. Sums are modulo 2^64. A register without a rule has
-- the value that the ABI says (System V ABI for AMD64, section 3.2.1).
use Rattle.std.specs.Prelude.{ℕ, ◌+◌, ◌%◌, ◌^◌, ℤ, Bool, true, false, List, map, Option, None, Some}
use Rattle.std.specs.Int.{w64, cast_unsigned}
use Rattle.std.specs.List.{range_with_len, slice_index_or}
use Rattle.sym_edges.specs.Abi.{Default, KeepsValue, IsCfa, Unspecified, default_of, return_address}
use Rattle.frame_entries.specs.FdeFields.{FdeFields}
use Rattle.frame_rows.specs.declared.row.Rule.{Rule}
use Rattle.frame_rows.specs.declared.row.Rule.TheVariants as rule
use Rattle.frame_rows.specs.declared.row.CfaRule.{CfaRule}
use Rattle.frame_rows.specs.declared.row.CfaRule.TheVariants as cfa
use Rattle.frame_rows.specs.declared.row.Row.{Row}
use Rattle.frame_rows.specs.Rows.{expr_bytes}
use Rattle.expr_postfix.specs.ExprValue.{expr_value, word_of}
use Rattle.cfi_eval.specs.declared.registers.Regs.{Regs}
use Rattle.cfi_eval.specs.declared.memory.MemRun.{MemRun}
use Rattle.cfi_eval.specs.declared.outcome.Outcome.{Outcome}
use Rattle.cfi_eval.specs.declared.outcome.Outcome.TheVariants.{Value, Undefined, Failed}
use Rattle.cfi_eval.specs.declared.outcome.Cause.TheVariants.{Missing, Unreadable, NoCfa}
use Rattle.cfi_eval.specs.declared.outcome.Frame.{Frame}
use Rattle.cfi_eval.specs.Bytes.{word_at}
use Rattle.rule_postfix.specs.RowParts.{rule_at}

-- the value that a register has now
abbrev pub known_value : ℕ → Option ℕ → Outcome
known_value register None = Failed (Missing register)
known_value register (Some v) = Value v

unfoldable pub value_now : Regs → ℕ → Outcome
value_now regs register = known_value register (slice_index_or regs.values register None)

-- the word at an address
abbrev pub known_word : ℕ → Option ℕ → Outcome
known_word a None = Failed (Unreadable a)
known_word a (Some word) = Value word

-- what `then` gives for the sum of a base, such as the CFA, and an offset; a failure if the base is
-- undefined or has failed
abbrev pub at_cfa : Outcome → ℤ → (ℕ → Outcome) → Outcome
at_cfa (Value cfa) offset then = then ((cfa + cast_unsigned w64 offset) % 2 ^ 64)
at_cfa Undefined offset then = Failed NoCfa
at_cfa (Failed why) offset then = Failed why

-- the CFA: a register's value plus an offset, or the value of an expression of the entry, which has no CFA on its stack at the start
abbrev pub cfa_value : FdeFields → Regs → List MemRun → Option CfaRule → Outcome
cfa_value e regs memory None = Undefined
cfa_value e regs memory (Some (cfa.Base register offset)) = at_cfa (value_now regs register) offset Value
cfa_value e regs memory (Some (cfa.Expr place)) = expr_value regs memory Undefined false (expr_bytes e place)

-- the value of a column without a rule
abbrev pub value_at_rest : Regs → Outcome → Default → ℕ → Outcome
value_at_rest regs cfa KeepsValue column = value_now regs column
value_at_rest regs cfa IsCfa column = cfa
value_at_rest regs cfa Unspecified column = Undefined

-- the value of an expression or, if the rule fetches, the word at that address
abbrev pub value_or_word : Bool → List MemRun → Outcome → Outcome
value_or_word false memory value = value
value_or_word true memory value = word_of memory value

-- the value of a column by its rule
abbrev pub column_value : FdeFields → Regs → List MemRun → Outcome → ℕ → Rule → Outcome
column_value e regs memory cfa column rule.Rest = value_at_rest regs cfa (default_of column) column
column_value e regs memory cfa column rule.Undefined = Undefined
column_value e regs memory cfa column rule.Same = value_now regs column
column_value e regs memory cfa column (rule.Offset n) = at_cfa cfa n (λ a. known_word a (word_at memory a))
column_value e regs memory cfa column (rule.ValOffset n) = at_cfa cfa n Value
column_value e regs memory cfa column (rule.Register register) = value_now regs register
column_value e regs memory cfa column (rule.Expr fetch place) = value_or_word fetch memory (expr_value regs memory cfa true (expr_bytes e place))

unfoldable pub value_in_row : FdeFields → Regs → List MemRun → Row → ℕ → Outcome
value_in_row e regs memory row column = column_value e regs memory (cfa_value e regs memory row.cfa) column (rule_at row column)

-- the frame that a row of an entry gives: the CFA, the return address and the sixteen registers
unfoldable pub row_frame : FdeFields → Row → Regs → List MemRun → Frame
row_frame e row regs memory = record {
  cfa = cfa_value e regs memory row.cfa;
  ra = value_in_row e regs memory row return_address;
  regs = map (value_in_row e regs memory row) (range_with_len 0 16);
}
