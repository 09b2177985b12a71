use Rattle.std.proofs.Common.{Some}
use Rattle.elf_sections.specs.Symbols.{entries_of}
use Rattle.elf_sections.specs.internal.Steps.{ReadsSymbols}
use Rattle.elf_sections.proofs.symbols.read_symbols.Given as goal

abbrev pub invariant-entries : goal.invariant-entries
invariant-entries l = ReadsSymbols (Some l.symbols.items) l.code l.strings (entries_of l.table l.k)
