use Rattle.std.proofs.Common.{sym, ◌∙◌}
use Rattle.sym_lookup.proofs.PlaceLemmas.{chain_more, chain_stops}
use Rattle.sym_lookup.proofs.scans.chain_from.Goals as goal

pub returns-in_default : goal.returns-in_default
returns-in_default c =
    c.of.ensures
    ∙ chain_stops c.args.first c.args.address c.levels.level c.level_count-count.result c.args.records.now _ _ c.levels.invariant (sym c.first_of_level.ensures ∙ c.in_default.is)

pub levels-preserved : goal.levels-preserved
levels-preserved c =
    chain_more c.args.first c.args.address c.levels.level c.level_count-count.result _ c.args.records.now _ _ _ c.levels.invariant (sym c.first_of_level.ensures ∙ c.in-Some.is) c.levels-test.true c.in_ok-push.ensures.items
