use Rattle.std.proofs.Common.{◌≡◌, ◌-◌, ◌≤◌, length, drop}
use Rattle.elf_sections.specs.Notes.{notes}
use Rattle.std.specs.Prelude.{IfSome, true}
use Rattle.core_file.specs.CoreNotes.{has_files, are_whole_notes}
use Rattle.core_file.specs.internal.Gathering.{gathered, so_far}
use Rattle.core_file.proofs.gather.gather.Given as goal

abbrev pub invariant-notes : goal.invariant-notes
invariant-notes l = record {
  within : l.at ≤ length l.part;
  limit : l.found.limit ≡ l.fn.found.limit;
  fit : IfSome l.found.files (λ d. has_files d ≡ true);
  few : length l.found.threads.items ≤ l.found.limit;
  whole : are_whole_notes (drop l.at l.part) ≡ are_whole_notes l.part;
  left : gathered l.fn.found.limit (so_far l.found) (notes (drop l.at l.part)) ≡ gathered l.fn.found.limit (so_far l.fn.found) (notes l.part);
}

abbrev pub decreases-notes : goal.decreases-notes
decreases-notes l = length l.part - l.at
