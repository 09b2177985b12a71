use Rattle.std.proofs.Common.{◌∙◌}
use Rattle.sym_lookup.proofs.StretchLemmas.{map_is}
use Rattle.sym_lookup.proofs.stretches.place_map.Goals as goal

pub returns : goal.returns
returns c = map_is c.args.kind c.args.first c.args.records.now _ _ (c.as_slice.ensures.value ∙ c.in_ok-stretches.ensures.same) c.in_ok-map.ensures
