-- `sample N` writes counts for a dump of the generated ELF file with N units.
use Rattle.std.specs.Prelude.{◌≡◌, ℕ, Bool, true, false, length, List, [], ◌++◌, Result, Ok, Err, codes, decimal}
use Rattle.std.specs.List.{filter}
use Rattle.elf_sections.specs.Image.{ImageParts, image}
use Rattle.elf_sections.specs.declared.fault.ElfFault.{ElfFault}
use Rattle.debug_read.specs.DebugSays.{DebugSays, debug_says}
use Rattle.debug_read.specs.declared.fault.DebugFault.{DebugFault}
use Rattle.rule_postfix.specs.Written.{omitted}
use Rattle.sample_elf.specs.Made.{made}
use Rattle.sym_records.specs.declared.line.SymLine.{SymLine}
use Rattle.sym_records.specs.declared.line.SymLine.TheVariants as record_of
use Rattle.stack_text.specs.Lines.{line}
use Rattle.dumpsyms_cmd.specs.Refusals.{elf_line, debug_line}
use Rattle.dumpsyms_cmd.specs.Verdict.{Verdict, refused}
use Rattle.dumpsyms_cmd.specs.commands.Dump.{CanonFile}
use Rattle.dumpsyms_cmd.specs.declared.sample.Counted.{Counted}
use Rattle.dumpsyms_cmd.specs.declared.sample.Counted.TheVariants.{Funcs, Inlines, Lines, Inits}

-- whether a record is of the counted kind: FUNC, INLINE, a line record or STACK CFI INIT
abbrev pub is_counted : Counted → SymLine → Bool
is_counted Funcs (record_of.Func many address size params name) = true
is_counted Inlines (record_of.Inline level call_line call_file origin ranges) = true
is_counted Lines (record_of.Line address size line file) = true
is_counted Inits (record_of.Init address size rules) = true
is_counted _ _ = false

unfoldable pub count_of : Counted → List SymLine → ℕ
count_of kind lines = length (filter (is_counted kind) lines)

-- `units U funcs F inlines I lines L inits S omitted O`: the number of units that were read, of records of each kind, and of frame entries that were
-- left out
unfoldable pub counts_line : ℕ → List SymLine → ℕ → List ℕ
counts_line units lines left = codes "units " ++ decimal units ++ codes " funcs " ++ decimal (count_of Funcs lines) ++ codes " inlines " ++ decimal (count_of Inlines lines) ++
    codes " lines " ++ decimal (count_of Lines lines) ++ codes " inits " ++ decimal (count_of Inits lines) ++ codes " omitted " ++ decimal left ++ codes "\n"

-- the counts for a file without fault
pub record GivesCounts (parts : ImageParts) (found : DebugSays) (v : Verdict) : Type 0 where
  pub lines : List SymLine
  pub canon : CanonFile parts [] found lines
  pub is : v ≡ record { status = 0; out = counts_line (length found.units) lines (length (omitted parts.code found.first found.second)); err = [] }

-- the verdict on what is read after the image: the first fault, or the counts
abbrev pub IsCountsVerdict : Result DebugSays DebugFault → ImageParts → Verdict → Type 0
IsCountsVerdict (Err fault) parts v = v ≡ refused (debug_line fault)
IsCountsVerdict (Ok found) parts v = GivesCounts parts found v

-- the verdict on the image
abbrev pub IsImageCounts : Result ImageParts ElfFault → Verdict → Type 0
IsImageCounts (Err fault) v = v ≡ refused (elf_line fault)
IsImageCounts (Ok parts) v = IsCountsVerdict (debug_says parts) parts v

-- the verdict for this many units; no file is read
abbrev pub IsSampleVerdict : ℕ → Verdict → Type 0
IsSampleVerdict units v = IsImageCounts (image (made units)) v
