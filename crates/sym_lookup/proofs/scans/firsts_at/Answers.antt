use Rattle.std.proofs.Common.{◌+◌, drop, length, subst, sym, arith}
use Rattle.sym_lookup.specs.internal.Scans.{AreFirsts}
use Rattle.sym_lookup.proofs.FirstLemmas.{firsts_none, firsts_more}
use Rattle.sym_lookup.proofs.scans.firsts_at.Goals as goal

pub records-init : goal.records-init
records-init c =
    subst (AreFirsts (c.args.first + length c.args.records.now) c.args.address (drop (length c.args.records.now) c.args.records.now)) (sym c.in_ok-firsts.ensures)
    (firsts_none c.args.first c.args.address c.args.count (length c.args.records.now) c.args.records.now (omega arith))

pub records-preserved : goal.records-preserved
records-preserved c =
    firsts_more c.args.first c.args.address c.records.at _ c.args.records.now c.index-records-at.result c.records.firsts.items c.note_inline.new.firsts.items (omega arith) (omega arith) c.index-records-at.is c.note_inline.ensures c.records.invariant
