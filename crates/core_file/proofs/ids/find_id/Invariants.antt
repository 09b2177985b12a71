use Rattle.std.proofs.Common.{◌≡◌, ◌-◌, ◌≤◌, length, drop}
use Rattle.elf_sections.specs.Notes.{first_id, notes}
use Rattle.core_file.proofs.ids.find_id.Given as goal

abbrev pub invariant-notes : goal.invariant-notes
invariant-notes g l = record {
  within : l.at ≤ length (g.B.ByteList.bytes l.list);
  left : first_id (notes (drop l.at (g.B.ByteList.bytes l.list))) ≡ first_id (notes (g.B.ByteList.bytes l.list));
}

abbrev pub decreases-notes : goal.decreases-notes
decreases-notes g l = length (g.B.ByteList.bytes l.list) - l.at
