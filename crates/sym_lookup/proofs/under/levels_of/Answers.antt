use Rattle.sym_lookup.proofs.UnderOfLemmas.{levels_more, levels_stop, levels_all}
use Rattle.sym_lookup.proofs.LevelLemmas.{no_map, some_map}
use Rattle.sym_lookup.proofs.under.levels_of.Goals as goal

pub returns-in_default : goal.returns-in_default
returns-in_default c =
    levels_stop c.args.first c.levels.level c.level_count-count.result c.args.records.now c.levels.levels.items c.levels.invariant (no_map c.levels.level c.args.first c.args.records.now c.in_ok-map.field-0 c.in_default.is c.in_ok-map.ensures)

pub levels-preserved : goal.levels-preserved
levels-preserved c =
    levels_more c.args.first c.levels.level c.level_count-count.result c.args.records.now c.levels.levels.items c.push.new.self.items c.in-Some.map c.levels.invariant
    (some_map c.levels.level c.args.first c.args.records.now c.in_ok-map.field-0 c.in-Some.map c.in-Some.is c.in_ok-map.ensures) c.levels-test.true c.in_ok-push.ensures.items

pub returns : goal.returns
returns c = levels_all c.args.first c.levels.level c.level_count-count.result c.args.records.now c.levels.levels.items c.levels.invariant c.levels-test.false
