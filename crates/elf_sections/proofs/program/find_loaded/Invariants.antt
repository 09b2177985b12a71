use Rattle.std.proofs.Common.{◌≡◌, ◌-◌}
use Rattle.elf_sections.specs.Programs.{programs_from, loaded_address}
use Rattle.elf_sections.proofs.program.find_loaded.Given as goal

abbrev pub invariant-headers : goal.invariant-headers
invariant-headers l =
    loaded_address (programs_from l.file l.table l.k (l.count - l.k)) ≡ loaded_address (programs_from l.file l.table 0 l.count)
