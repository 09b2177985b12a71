use Rattle.std.proofs.Common.{◌≡◌, ◌-◌, length}
use Rattle.elf_sections.specs.Notes.{first_id, notes, notes_in}
use Rattle.elf_sections.proofs.notes.find_id.Given as goal

abbrev pub invariant-notes : goal.invariant-notes
invariant-notes l = first_id (notes_in (length l.bytes - l.counter) l.rest) ≡ first_id (notes l.bytes)
