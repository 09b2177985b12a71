use Rattle.std.proofs.Common.{arith}
use Rattle.dumpsyms_cmd.proofs.CheckLemmas.{findings_end}
use Rattle.dumpsyms_cmd.proofs.check.add_findings.Goals as goal

pub returns : goal.returns
returns c = findings_end c.args.text.now.items c.lines.text.items c.args.found.now c.lines.finding-index (omega arith) c.lines.invariant
