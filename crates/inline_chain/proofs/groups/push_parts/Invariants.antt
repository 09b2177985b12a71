use Rattle.std.proofs.Common.{length}
use Rattle.range_set.specs.Canonical.{IsCanonical}
use Rattle.inline_chain.proofs.PartLemmas.{PartsTo}
use Rattle.inline_chain.proofs.groups.push_parts.Given as goal

abbrev pub invariant-parts : goal.invariant-parts
invariant-parts l = record {
  canonical : IsCanonical l.rest;
  parts : PartsTo l.level l.entry l.spans l.rest l.fn.made.items l.made.items;
}

abbrev pub decreases-parts : goal.decreases-parts
decreases-parts l = length l.rest
