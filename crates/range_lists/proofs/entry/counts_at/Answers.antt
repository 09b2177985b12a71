use Rattle.range_lists.proofs.PlaceLemmas.{none_counted, none_there}
use Rattle.range_lists.proofs.entry.counts_at.Goals as goal

pub returns-in-Some : goal.returns-in-Some
returns-in-Some c none sections unit base =
    none_counted c.args.table.now.root c.args.table.now.dies c.args.entry c.in-Some.die c.counts.result (rw c.dies.ensures at c.in-Some.ensures) c.counts.ensures none sections unit base

pub returns-in-None : goal.returns-in-None
returns-in-None c none sections unit base = none_there c.args.table.now.root c.args.table.now.dies c.args.entry (rw c.dies.ensures at c.in-None.ensures) sections unit base
