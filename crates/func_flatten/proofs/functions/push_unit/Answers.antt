use Rattle.std.proofs.Common.{◌<◌, ◌+◌, ◌*◌, length, subst, arith}
use Rattle.func_flatten.proofs.CollectLemmas.{collected_raised, entry_added}
use Rattle.func_flatten.proofs.functions.push_unit.Goals as goal

pub entries-preserved : goal.entries-preserved
entries-preserved c = record {
  all = λ left before.
      entry_added c.args.units.now _ _ _ _ (c.args.unit * 4294967296 + c.entries.entry) (c.args.unit * 4294967296 + (c.entries.entry + 1)) c.args.unit c.entries.entry c.args.part.now.die.dies c.args.part.now.spans left
      (subst (λ dies. c.entries.entry < length dies) c.dies.ensures (omega arith)) (c.entries.invariant.all left before)
      (λ later die is more. collected_raised _ _ _ _ _ later (omega arith) (c.in_ok-push_entry.ensures.all later die is more));
  apart = c.in_ok-push_entry.ensures.apart;
  fit = c.in_ok-push_entry.ensures.fit;
  count = omega (arith, c.in_ok-push_entry.ensures.count, c.entries.invariant.count);
}
