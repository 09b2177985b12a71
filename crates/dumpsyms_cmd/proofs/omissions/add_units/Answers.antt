use Rattle.std.proofs.Common.{arith}
use Rattle.dumpsyms_cmd.proofs.FrameLemmas.{skipped_end}
use Rattle.dumpsyms_cmd.proofs.omissions.add_units.Goals as goal

pub returns : goal.returns
returns c = skipped_end c.args.text.now.items c.lines.text.items c.args.units.now c.lines.unit-index (omega arith) c.lines.invariant
