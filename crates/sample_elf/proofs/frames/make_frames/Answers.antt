use Rattle.sample_elf.specs.Made.{common_entry, unit_frames}
use Rattle.sample_elf.proofs.PieceLemmas.{one_more}
use Rattle.sample_elf.proofs.frames.make_frames.Goals as goal

pub units-preserved : goal.units-preserved
units-preserved c = one_more common_entry c.units.bytes.items _ (unit_frames c.args.n) c.units.k c.units.invariant c.in_ok-put_frames.ensures
