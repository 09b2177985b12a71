use Rattle.sym_meaning.specs.TextNames.{is_origin}
use Rattle.sym_lookup.proofs.NumberLemmas.{found_by}
use Rattle.sym_lookup.proofs.named.numbered_origin.Goals as goal

pub returns : goal.returns
returns c = found_by (is_origin c.args.number) _ _ _ _ _ _ c.as_slice.ensures.value c.place_of.ensures (c.requires.origin c.args.number) c.line_at.ensures
