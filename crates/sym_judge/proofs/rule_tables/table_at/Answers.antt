use Rattle.std.proofs.Common.{◌+◌, subst, sym}
use Rattle.cfi_eval.proofs.InitLemmas.{init_is_init}
use Rattle.sym_judge.specs.internal.Tables.{IsTableUpTo}
use Rattle.sym_judge.proofs.TableLemmas.{table_start, table_counts, table_waits, table_stops, table_ends}
use Rattle.sym_judge.proofs.rule_tables.table_at.Goals as goal
use Rattle.sym_judge.proofs.rule_tables.table_at.Goals.{then-start-address, else-start-address}

pub unreachable-requires : goal.unreachable-requires
unreachable-requires c = init_is_init c.args.lines.now c.args.address c.args.init c.index-lines-init.result c.requires.first c.index-lines-init.is c.in_default.not-Init

pub lines-init : goal.lines-init
lines-init c =
    table_start c.args.lines.now c.args.address c.args.init c.index-lines-init.result c.in-Init.address c.in-Init.size c.in-Init.rules c.as_slice.result.now c.no_rules-table.result c.put_rules.new.table
    c.requires.within c.requires.first c.index-lines-init.is c.in-Init.is c.as_slice.ensures (c.no_rules-table.ensures c.args.lines.now) c.put_rules.ensures

pub returns-in_default-lines : goal.returns-in_default-lines
returns-in_default-lines c =
    table_stops c.args.lines.now c.args.address c.lines.place c.index-lines-place.result c.lines.table c.lines-test.true c.index-lines-place.is c.in_default-lines.not-Change c.lines.invariant

pub lines-preserved : goal.lines-preserved
lines-preserved c =
    elim c.if-start-address.branch [
      | then-start-address w ↦ subst (λ t. IsTableUpTo c.args.lines.now c.args.address (c.lines.place + 1) t) (sym w.table-is)
          (table_counts c.args.lines.now c.args.address c.lines.place c.in-Change.start c.index-lines-place.result c.in-Change.rules w.as_slice-then-start-address.result.now c.lines.table w.put_rules-then-start-address.new.table
          c.lines-test.true c.index-lines-place.is c.in-Change.is w.as_slice-then-start-address.ensures w.if-start-address.true w.put_rules-then-start-address.ensures c.lines.invariant)
      | else-start-address w ↦ subst (λ t. IsTableUpTo c.args.lines.now c.args.address (c.lines.place + 1) t) (sym w.table-is)
          (table_waits c.args.lines.now c.args.address c.lines.place c.in-Change.start c.index-lines-place.result c.in-Change.rules c.lines.table c.lines-test.true c.index-lines-place.is c.in-Change.is w.if-start-address.false c.lines.invariant)
    ]

pub returns : goal.returns
returns c = table_ends c.args.lines.now c.args.address c.lines.place c.lines.table c.lines-test.false c.lines.invariant
