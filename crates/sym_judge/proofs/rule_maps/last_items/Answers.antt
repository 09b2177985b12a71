use Rattle.std.proofs.Common.{sym, subst, ◌∙◌}
use Rattle.step_maps.specs.Covers.{AreStretches}
use Rattle.sym_judge.proofs.RuleMapLemmas.{last_found, fit_back}
use Rattle.sym_judge.proofs.rule_maps.last_items.Goals as goal

pub first_items-requires : goal.first_items-requires
first_items-requires c = subst AreStretches (sym (c.as_slice.ensures.value ∙ c.reverse.ensures.items)) (fit_back c.args.items.items c.requires)

pub returns : goal.returns
returns c = last_found c.args.items.items c.as_slice.result.now c.in_ok-map.map (c.as_slice.ensures.value ∙ c.reverse.ensures.items) c.in_ok-map.ensures
