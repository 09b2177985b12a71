use Rattle.std.proofs.Common.{◌≡◌}
use Rattle.elf_sections.specs.Sections.{sections_from}
use Rattle.elf_sections.proofs.tables.read_sections.Given as goal

abbrev pub invariant-headers : goal.invariant-headers
invariant-headers l = l.sections.items ≡ sections_from l.file l.table l.k
