use Rattle.std.proofs.Common.{◌≡◌, ◌≤◌, ◌++◌, length, take}
use Rattle.std.specs.Prelude.{map}
use Rattle.core_file.specs.Modules.{modules_from, modules_in}
use Rattle.core_file.specs.internal.FilePlaces.{file_view, IsInside}
use Rattle.core_file.specs.internal.Listings.{IsListing}
use Rattle.core_file.proofs.modules.list_modules.Given as goal

abbrev pub invariant-files : goal.invariant-files
invariant-files l = record {
  inside : IsInside (length l.source.note.now) l.rest;
  listing : IsListing l.source.memory.now l.listing;
  few : length l.listing.modules.items ≤ l.limit;
  left : take l.limit (l.listing.modules.items ++ modules_from l.source.memory.now l.listing.modules.items (map (file_view l.source.note.now) l.rest)) ≡ modules_in l.limit l.source.memory.now (map (file_view l.source.note.now) l.fn.files);
}

abbrev pub decreases-files : goal.decreases-files
decreases-files l = length l.rest
