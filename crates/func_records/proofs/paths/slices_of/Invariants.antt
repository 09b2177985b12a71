use Rattle.std.proofs.Common.{◌≡◌, take}
use Rattle.func_records.specs.internal.Gathering.{bytes_of}
use Rattle.func_records.proofs.paths.slices_of.Given as goal

abbrev pub invariant-lists : goal.invariant-lists
invariant-lists l = bytes_of l.slices.items ≡ take l.place l.lists
