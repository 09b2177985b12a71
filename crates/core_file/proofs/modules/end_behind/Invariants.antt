use Rattle.std.proofs.Common.{◌≡◌, length}
use Rattle.std.specs.Prelude.{map}
use Rattle.core_file.specs.Modules.{end_behind}
use Rattle.core_file.specs.internal.FilePlaces.{file_view, IsInside}
use Rattle.core_file.proofs.modules.end_behind.Given as goal

abbrev pub invariant-files : goal.invariant-files
invariant-files l = record {
  inside : IsInside (length l.note) l.rest;
  left : end_behind l.text l.last (map (file_view l.note) l.rest) ≡ end_behind l.text l.end (map (file_view l.note) l.fn.files);
}

abbrev pub decreases-files : goal.decreases-files
decreases-files l = length l.rest
