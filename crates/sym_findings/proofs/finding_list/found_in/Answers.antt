use Rattle.sym_findings.specs.internal.Preceding.{preceding_at}
use Rattle.sym_findings.proofs.ListingLemmas.{lists_none, lists_more, lists_all}
use Rattle.sym_findings.proofs.finding_list.found_in.Goals as goal

pub loop-index-init : goal.loop-index-init
loop-index-init c = lists_none c.args.lines.now c.new.result.items c.none_kept-kept.result c.new.ensures.items c.none_kept-kept.ensures

pub loop-index-preserved : goal.loop-index-preserved
loop-index-preserved c =
    lists_more c.args.lines.now c.loop-index.index c.index-lines-index.result c.loop-index.notes.list.items c.judge.new.notes.list.items c.loop-index.kept c.judge.new.kept c.loop-index-test.true c.index-lines-index.is c.loop-index.invariant
    (c.in_ok-judge.ensures c.args.lines.now (preceding_at c.loop-index.index c.args.lines.now) c.requires c.loop-index.invariant.keeps)

pub returns : goal.returns
returns c = lists_all c.args.lines.now c.loop-index.index c.loop-index.notes.list.items c.loop-index.kept c.loop-index-test.false c.loop-index.invariant
