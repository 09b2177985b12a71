use Rattle.std.proofs.Common.{◌+◌, sym, subst}
use Rattle.cfi_eval.proofs.TableLemmas.{Puts, Leads, leads_start, leads_stop, leads_end, leads_counts, leads_waits}
use Rattle.cfi_eval.proofs.rules.table_at.Goals as goal
use Rattle.cfi_eval.proofs.rules.table_at.Goals.{then-start-address, else-start-address}

pub lines-init : goal.lines-init
lines-init c = leads_start c.args.first.now c.args.address c.args.behind.now 18 c.put_rules.new.table c.put_rules.ensures

pub returns-in_default : goal.returns-in_default
returns-in_default c = leads_stop c.args.first.now c.args.address c.args.behind.now c.lines.line-index c.line-item.result c.lines.table c.lines-test.true c.line-item.is c.in_default.not-Change c.lines.invariant

pub lines-preserved : goal.lines-preserved
lines-preserved c =
    elim c.if-start-address.branch [
      | then-start-address w ↦ subst (Leads c.args.first.now c.args.address c.args.behind.now (c.lines.line-index + 1)) (sym w.table-is)
          (leads_counts c.args.first.now c.args.address c.args.behind.now c.lines.line-index c.line-item.result c.in-Change.start c.in-Change.rules c.lines.table w.put_rules-then-start-address.new.table c.lines-test.true c.line-item.is c.in-Change.is w.if-start-address.true
          (subst (λ rules. Puts rules c.lines.table w.put_rules-then-start-address.new.table) w.as_slice.ensures w.put_rules-then-start-address.ensures) c.lines.invariant)
      | else-start-address w ↦ subst (Leads c.args.first.now c.args.address c.args.behind.now (c.lines.line-index + 1)) (sym w.table-is)
          (leads_waits c.args.first.now c.args.address c.args.behind.now c.lines.line-index c.line-item.result c.in-Change.start c.in-Change.rules c.lines.table c.lines-test.true c.line-item.is c.in-Change.is w.if-start-address.false c.lines.invariant)
    ]

pub returns : goal.returns
returns c = leads_end c.args.first.now c.args.address c.args.behind.now c.lines.line-index c.lines.table c.lines-test.false c.lines.invariant
