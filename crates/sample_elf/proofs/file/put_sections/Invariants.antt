use Rattle.std.proofs.Common.{◌≡◌, take, ◌++◌}
use Rattle.std.specs.List.{flat_map}
use Rattle.sample_elf.specs.Made.{section_header}
use Rattle.sample_elf.proofs.file.put_sections.Given as goal

abbrev pub invariant-sections : goal.invariant-sections
invariant-sections l = l.bytes.items ≡ l.fn.bytes.items ++ flat_map section_header (take l.k l.sections)
