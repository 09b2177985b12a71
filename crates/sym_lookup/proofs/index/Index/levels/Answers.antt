use Rattle.std.proofs.Common.{sym, ap, ◌∙◌}
use Rattle.std.specs.Option.{is_some}
use Rattle.sym_lookup.proofs.PartLemmas.{levels_told, held_told}
use Rattle.sym_lookup.proofs.index.Index.levels.Goals as goal

pub returns-in-Some : goal.returns-in-Some
returns-in-Some c = record {
  held = λ lines is. sym (ap is_some c.in-Some.is) ∙ held_told lines _ _ c.args.func _ c.unders.ensures c.under_at.ensures.held is.held;
  chain = λ lines x is fits. levels_told lines _ _ _ _ c.args.func x c.unders.ensures c.level_maps.ensures c.in-Some.ensures.func c.in-Some.ensures.under is.unders fits;
}
