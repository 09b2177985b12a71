use Rattle.std.proofs.Common.{◌≡◌, ◌+◌, ◌-◌, length}
use Rattle.frame_entries.specs.Listing.{from_start, listed_in, listed_at}
use Rattle.frame_entries.proofs.ListingLemmas.{behind}
use Rattle.frame_entries.proofs.raw_entries.read_listing.Given as goal

abbrev pub invariant-marks : goal.invariant-marks
invariant-marks l = record {
  listed : behind l.raws.items (listed_in (length l.bytes - l.counter) l.which l.cursor) ≡ listed_at l.which (from_start l.bytes);
  ended : l.cursor.at + length l.cursor.bytes ≡ length l.bytes;
}
