use Rattle.std.proofs.Common.{arith, ap, length}
use Rattle.debug_read.proofs.SetLemmas.{none_more, all_none}
use Rattle.debug_read.proofs.ranges.no_sets.Goals as goal

pub entries-preserved : goal.entries-preserved
entries-preserved c = none_more c.entries._entry c.entries.sets c.push_none.new.self c.entries.invariant c.in_ok-push_none.ensures

pub returns : goal.returns
returns c =
    all_none c.args.table.now.dies c.entries._entry c.entries.sets (omega (arith, c.len-count.ensures, ap length c.dies.ensures, c.entries-test.false, c.entries.auto._entry-end)) c.entries.invariant
