use Rattle.std.proofs.Common.{sym, ◌∙◌, arith}
use Rattle.sym_lookup.proofs.UnderOfLemmas.{chain_more, chain_stops, chain_all}
use Rattle.sym_lookup.proofs.under.chain_at.Goals as goal

pub returns-in_default : goal.returns-in_default
returns-in_default c = c.of.ensures ∙ chain_stops c.args.levels.now c.levels.at c.args.address c.index-levels-at.result _ _ c.levels.invariant c.index-levels-at.is c.levels-test.true (sym c.place_at.ensures ∙ c.in_default.is)

pub levels-preserved : goal.levels-preserved
levels-preserved c = chain_more c.args.levels.now c.levels.at c.args.address _ c.index-levels-at.result _ _ _ c.levels.invariant c.index-levels-at.is c.levels-test.true (sym c.place_at.ensures ∙ c.in-Some.is) c.in_ok-push.ensures.items

pub returns : goal.returns
returns c = c.of-2.ensures ∙ chain_all c.args.levels.now c.levels.at c.args.address _ _ c.levels.invariant (omega arith)
