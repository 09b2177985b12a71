use Rattle.std.proofs.Common.{arith}
use Rattle.debug_read.specs.internal.Targets.{targets_of}
use Rattle.debug_read.proofs.TargetLemmas.{one_more, all_pushed}
use Rattle.debug_read.proofs.sup_targets.push_entries.Goals as goal

pub entries-preserved : goal.entries-preserved
entries-preserved c = one_more targets_of c.args.places.now.items c.entries.places.items _ c.args.dies.now c.entries.entry c.in-Some.die c.in-Some.ensures c.entries.invariant c.in_ok-push_targets.ensures

pub returns : goal.returns
returns c = all_pushed targets_of c.args.places.now.items c.entries.places.items c.args.dies.now c.entries.entry (omega arith) c.entries.invariant
