use Rattle.std.proofs.Common.{arith}
use Rattle.dumpsyms_cmd.proofs.FrameLemmas.{left_end}
use Rattle.dumpsyms_cmd.proofs.omissions.add_units_left.Goals as goal

pub returns : goal.returns
returns c = left_end c.args.text.now.items c.lines.text.items c.args.splits.now c.args.units.now c.lines.unit-index (omega arith) c.lines.invariant.text
