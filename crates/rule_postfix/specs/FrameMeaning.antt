-- When the frame records of a symbol file mean what DWARF's rows mean: evaluating the records gives what the rows give.
use Rattle.std.specs.Prelude.{◌≡◌, ℕ, ◌+◌, ◌-◌, ◌<◌, ◌&&◌, not, Bool, true, false, List, Option, None, Some}
use Rattle.std.specs.List.{slice_index_or, AllByRecursion}
use Rattle.frame_entries.specs.FdeFields.{FdeFields}
use Rattle.frame_rows.specs.declared.row.Rule.{Rule}
use Rattle.frame_rows.specs.declared.row.Rule.TheVariants as rule
use Rattle.frame_rows.specs.declared.row.Row.{Row}
use Rattle.frame_rows.specs.Rows.{row_at}
use Rattle.sym_records.specs.declared.line.SymLine.{SymLine}
use Rattle.cfi_eval.specs.declared.registers.Regs.{Regs}
use Rattle.cfi_eval.specs.declared.memory.MemRun.{MemRun}
use Rattle.cfi_eval.specs.declared.outcome.Outcome.TheVariants.{Undefined}
use Rattle.cfi_eval.specs.declared.outcome.Frame.{Frame}
use Rattle.cfi_eval.specs.TextValue.{text_frame}
use Rattle.rule_postfix.specs.RowParts.{rule_at, is_unspecified}
use Rattle.rule_postfix.specs.RowValue.{row_frame}
use Rattle.rule_postfix.specs.Covering.{holds_address, entries_at}

abbrev pub is_undefined : Rule → Bool
is_undefined rule.Rest = false
is_undefined rule.Undefined = true
is_undefined rule.Same = false
is_undefined (rule.Offset n) = false
is_undefined (rule.ValOffset n) = false
is_undefined (rule.Register register) = false
is_undefined (rule.Expr fetch place) = false

-- the one exception: the row says that rbx, rbp, rsp or one of r12 to r15 is undefined. The text cannot say this, so there the register has the value
-- that it has without a rule
unfoldable pub is_lost : Row → ℕ → Bool
is_lost row register = is_undefined (rule_at row register) && not (is_unspecified register)

-- the text's frame `said` is the row's frame `meant`. For the CFA, the return address and each of
-- the sixteen registers, except lost ones, both have the same value, or both are undefined, or both
-- have failed with the same cause
pub record IsFrameOf (row : Row) (meant said : Frame) : Type 0 where
  pub cfa : said.cfa ≡ meant.cfa
  pub ra : said.ra ≡ meant.ra
  pub registers : (k : ℕ) → k < 16 → is_lost row k ≡ false → slice_index_or said.regs k Undefined ≡ slice_index_or meant.regs k Undefined

abbrev pub SaysFrame : Row → Frame → Option Frame → Type 0
SaysFrame row meant None = ⊥
SaysFrame row meant (Some said) = IsFrameOf row meant said

-- at each address of an entry, for all registers and all memory, the text gives the frame of the entry's row there
pub record KeepsRows (base : ℕ) (lines : List SymLine) (e : FdeFields) : Type 0 where
  pub at : (a : ℕ) (regs : Regs) (memory : List MemRun) → holds_address a e ≡ true →
      SaysFrame (row_at e a) (row_frame e (row_at e a) regs memory) (text_frame lines (a - base) regs memory)

-- the text gives the frame of the row at each address of each of the entries; at any other address
-- it gives no frame
pub record KeepsFrames (base : ℕ) (entries : List FdeFields) (lines : List SymLine) : Type 0 where
  pub rows : AllByRecursion (KeepsRows base lines) entries
  pub nothing_else : (x : ℕ) (regs : Regs) (memory : List MemRun) → entries_at entries (x + base) ≡ 0 → text_frame lines x regs memory ≡ None
