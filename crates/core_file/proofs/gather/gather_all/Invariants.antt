use Rattle.std.proofs.Common.{◌≡◌, ◌+◌, ◌≤◌, length, drop}
use Rattle.std.specs.List.{position_or_len}
use Rattle.std.specs.Prelude.{IfSome, true}
use Rattle.core_file.specs.CoreNotes.{has_files, has_bad_note, all_notes}
use Rattle.core_file.specs.internal.Gathering.{gathered, so_far}
use Rattle.core_file.proofs.gather.gather_all.Given as goal

abbrev pub invariant-segments : goal.invariant-segments
invariant-segments l = record {
  limit : l.found.limit ≡ l.fn.found.limit;
  fit : IfSome l.found.files (λ d. has_files d ≡ true);
  few : length l.found.threads.items ≤ l.found.limit;
  fine : position_or_len (has_bad_note l.file) l.segments ≡ l.k + position_or_len (has_bad_note l.file) (drop l.k l.segments);
  left : gathered l.fn.found.limit (so_far l.found) (all_notes l.file (drop l.k l.segments)) ≡ gathered l.fn.found.limit (so_far l.fn.found) (all_notes l.file l.segments);
}
