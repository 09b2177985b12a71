use Rattle.std.proofs.Common.{arith}
use Rattle.dumpsyms_cmd.proofs.FrameLemmas.{lines_end}
use Rattle.dumpsyms_cmd.proofs.omissions.add_omissions.Goals as goal

pub returns : goal.returns
returns c = lines_end c.args.text.now.items c.lines.text.items c.args.omissions.now c.lines.omission-index (omega arith) c.lines.invariant
