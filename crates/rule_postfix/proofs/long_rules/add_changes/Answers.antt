use Rattle.std.proofs.Common.{arith}
use Rattle.rule_postfix.proofs.LongLemmas.{all_added}
use Rattle.rule_postfix.proofs.long_rules.add_changes.Goals as goal

pub returns : goal.returns
returns c =
    all_added c.args.rows.now.fde.now c.args.rows.now.before.now c.args.rows.now.after.now c.registers.number c.args.text.now.items c.registers.text.items (omega arith) c.registers.invariant
