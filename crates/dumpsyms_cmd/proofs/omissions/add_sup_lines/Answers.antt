use Rattle.std.proofs.Common.{arith}
use Rattle.dumpsyms_cmd.proofs.LeftLemmas.{sup_end}
use Rattle.dumpsyms_cmd.proofs.omissions.add_sup_lines.Goals as goal

pub returns : goal.returns
returns c = sup_end c.args.text.now.items c.lines.text.items c.args.targets.now c.args.units.now c.lines.unit-index (omega arith) c.lines.invariant
