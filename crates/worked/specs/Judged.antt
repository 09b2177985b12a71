-- What a symbol file of any origin says if `judge` answers yes: what DWARF says in the ELF file.
use Rattle.std.specs.Prelude.{◌≡◌, ℕ, ◌+◌, ◌-◌, ◌<◌, ◌^◌, true, List, map, None, Some, Ok}
use Rattle.std.specs.List.{AllByRecursion}
use Rattle.std.specs.Option.{option_map}
use Rattle.sym_edges.specs.Outside.{Files}
use Rattle.elf_sections.specs.Image.{ImageParts}
use Rattle.frame_entries.specs.FdeFields.{FdeFields}
use Rattle.frame_rows.specs.Rows.{row_at}
use Rattle.sym_records.specs.declared.line.SymLine.{SymLine}
use Rattle.sym_meaning.specs.TextNames.{text_owner, text_chain, text_line}
use Rattle.sym_grammar.specs.Input.{file_reading}
use Rattle.cfi_eval.specs.declared.registers.Regs.{Regs}
use Rattle.cfi_eval.specs.declared.memory.MemRun.{MemRun}
use Rattle.cfi_eval.specs.TextValue.{text_frame}
use Rattle.rule_postfix.specs.RowValue.{row_frame}
use Rattle.rule_postfix.specs.Covering.{holds_address, entries_at}
use Rattle.rule_postfix.specs.FrameMeaning.{SaysFrame}
use Rattle.debug_units.specs.declared.unit_read.UnitRead.{UnitRead}
use Rattle.debug_units.specs.Owners.{owner, chain, line}
use Rattle.func_records.specs.TextNames.{name_of, call_in, found_line}
use Rattle.debug_read.specs.Each.{Match}
use Rattle.debug_read.specs.UnitsRead.{IsUnitRead}
use Rattle.debug_read.specs.DebugSays.{DebugSays, debug_says}
use Rattle.cfi_eval.specs.Known.{AreWords, AreBytes}
use Rattle.sym_judge.specs.SameMeaning.{said}
use Rattle.dumpsyms_cmd.specs.ElfInput.{ElfSource, given_image}
use Rattle.dumpsyms_cmd.specs.Verdict.{LIMIT}
use Rattle.dumpsyms_cmd.specs.commands.Dump.{written_of}

-- a look-up of an address names the function that owns it in the ELF file, or none if no function
-- owns it. It also names the address's line and the calls of its chain, each by the called
-- function's name and the path and the line of the call
pub record NamesAsFile (base : ℕ) (units : List UnitRead) (lines : List SymLine) (x : ℕ) : Type 0 where
  pub function : text_owner lines x ≡ option_map (name_of units) (owner units (x + base))
  pub chain : map said (text_chain lines x) ≡ map said (map (call_in units) (chain units (x + base)))
  pub line : text_line lines x ≡ option_map found_line (line units (x + base))

-- at each address of an entry, for all registers of 64 bits and all memory of bytes, evaluating the rules gives the frame of the entry's row
pub record KeepsRowsOfWords (base : ℕ) (lines : List SymLine) (e : FdeFields) : Type 0 where
  pub at : (a : ℕ) (regs : Regs) (memory : List MemRun) → a - base < 2 ^ 64 → holds_address a e ≡ true → AreWords regs → AreBytes memory →
      SaysFrame (row_at e a) (row_frame e (row_at e a) regs memory) (text_frame lines (a - base) regs memory)

-- `KeepsRowsOfWords` holds for each written entry, and no rule applies at an address outside all entries
pub record KeepsFramesOfWords (base : ℕ) (entries : List FdeFields) (lines : List SymLine) : Type 0 where
  pub rows : AllByRecursion (KeepsRowsOfWords base lines) entries
  pub nothing_else : (x : ℕ) (regs : Regs) (memory : List MemRun) → x < 2 ^ 64 → entries_at entries (x + base) ≡ 0 → text_frame lines x regs memory ≡ None

-- the files are there and were read. The symbol file names at each address what DWARF says there, and its frame rules give what DWARF's rows give
pub record SaysAsFile (source : ElfSource) (sym : List ℕ) (files : Files) : Type 0 where
  pub parts : ImageParts
  pub image_is : given_image source files ≡ Ok parts
  pub found : DebugSays
  pub found_is : debug_says parts ≡ Ok found
  pub units : List UnitRead
  pub units_are : Match (IsUnitRead parts.code) found.units units
  pub bytes : List ℕ
  pub there : files sym ≡ Some bytes
  pub lines : List SymLine
  pub reads : file_reading LIMIT bytes ≡ Ok lines
  pub names : (x : ℕ) → x < 2 ^ 64 → NamesAsFile parts.base units lines x
  pub frames : KeepsFramesOfWords parts.base (written_of parts found) lines
