use Rattle.die_walk.proofs.HeadLemmas.{fit_is}
use Rattle.die_walk.proofs.entry_heads.push_fit.Goals as goal

pub returns-in-Some-clause-added : goal.returns-in-Some-clause-added
returns-in-Some-clause-added c = fit_is c.push_site.result c.args.list.now c.push_site.new.list c.args.tag c.args.picks.now c.in-Some.head c.args.parts c.in-Some.ensures c.push_site.ensures.added
