use Rattle.std.proofs.Common.{◌≡◌, ◌++◌}
use Rattle.sample_elf.specs.Made.{common_entry, each_below, unit_frames}
use Rattle.sample_elf.proofs.frames.make_frames.Given as goal

abbrev pub invariant-units : goal.invariant-units
invariant-units l = l.bytes.items ≡ common_entry ++ each_below (unit_frames l.n) l.k
