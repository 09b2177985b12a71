use Rattle.sym_lookup.proofs.UnderOfLemmas.{chain_held}
use Rattle.sym_lookup.proofs.under.under_of.Goals as goal

pub returns-clause-under : goal.returns-clause-under
returns-clause-under c = record {
  chain = chain_held c.args.lines.now c.under_func.result.now c.args.func c.in_ok-levels.levels.items c.under_func.ensures.under c.in_ok-levels.ensures;
  line = c.in_ok-finder.ensures;
}
