use Rattle.std.proofs.Common.{◌≡◌, ◌+◌, ◌-◌, ◌*◌, ◌≤◌, ◌++◌, length, drop}
use Rattle.std.specs.Prelude.{map}
use Rattle.core_file.specs.MappedFiles.{files_from, files_of}
use Rattle.core_file.specs.internal.FilePlaces.{file_view, IsInside}
use Rattle.core_file.proofs.files.read_files.Given as goal

abbrev pub invariant-files : goal.invariant-files
invariant-files l = record {
  within : l.text ≤ length l.note;
  numbers : 16 + 24 * l.count ≤ length l.note;
  len : l.len ≡ length l.note;
  files : map (file_view l.note) l.files.items ++ files_from (l.count - l.k) (drop (16 + 24 * l.k) l.note) (drop l.text l.note) ≡ files_of l.note;
  inside : IsInside (length l.note) l.files.items;
}
