use Rattle.std.proofs.Common.{◌≡◌, ◌-◌, arith}
use Rattle.rule_postfix.specs.RowParts.{rule_at}
use Rattle.rule_postfix.proofs.RulesLemmas.{stays_kept, register_stays, all_kept, all_registers}
use Rattle.rule_postfix.proofs.rules.write_registers.Goals as goal

pub turns-preserved : goal.turns-preserved
turns-preserved c =
    let same : rule_at c.args.rows.now.before.now (c.turns.number - 1) ≡ rule_at c.args.rows.now.after.now (c.turns.number - 1) = c.stays.ensures c.if-not-stays.false in
    record {
      small = omega arith;
      near = omega arith;
      kept = stays_kept c.args.rows.now.before.now c.args.rows.now.after.now c.turns.number (c.turns.number - 1) (omega arith) (omega arith) c.turns.invariant.kept same;
      written = register_stays c.args.rows.now.fde.now c.args.rows.now.before.now c.args.rows.now.after.now c.turns.number (c.turns.number - 1) c.args.line.now c.turns.line (omega arith) (omega arith) c.turns.invariant.written same;
    }

pub returns-clause-kept : goal.returns-clause-kept
returns-clause-kept c = all_kept c.args.columns c.args.rows.now.before.now c.args.rows.now.after.now c.turns.number c.requires.alike (omega arith) c.turns.invariant.small c.turns.invariant.kept

pub returns-clause-written : goal.returns-clause-written
returns-clause-written c =
    all_registers c.args.rows.now.fde.now c.args.columns c.args.rows.now.before.now c.args.rows.now.after.now c.turns.number c.args.line.now c.turns.line c.requires.alike (omega arith) c.turns.invariant.small c.turns.invariant.written
