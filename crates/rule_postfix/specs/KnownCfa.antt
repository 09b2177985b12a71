-- The CFA of a written entry is never undefined (DWARF 5, 6.4.1: each row has a rule for the CFA).
use Rattle.std.specs.Prelude.{◌≡◌, ℕ, true, List}
use Rattle.frame_entries.specs.FdeFields.{FdeFields}
use Rattle.frame_rows.specs.Rows.{row_at}
use Rattle.cfi_eval.specs.declared.registers.Regs.{Regs}
use Rattle.cfi_eval.specs.declared.memory.MemRun.{MemRun}
use Rattle.cfi_eval.specs.Known.{AreBytes, IsKnown}
use Rattle.rule_postfix.specs.RowValue.{row_frame}
use Rattle.rule_postfix.specs.Covering.{holds_address}

-- at each address of an entry, for all registers and all memory of bytes, the CFA of the entry's row is a number of 64 bits or a failure
pub record HasKnownCfa (e : FdeFields) : Type 0 where
  pub at : (a : ℕ) (regs : Regs) (memory : List MemRun) → holds_address a e ≡ true → AreBytes memory → IsKnown (row_frame e (row_at e a) regs memory).cfa
