use Rattle.std.proofs.Common.{sym}
use Rattle.sym_lookup.proofs.IndexLemmas.{funcs_map, inits_map, marks_found}
use Rattle.sym_lookup.proofs.index.Index.of.Goals as goal

pub returns : goal.returns
returns c = rw (sym c.as_slice-lines.ensures.lines) (record {
  funcs = funcs_map _ _ c.in_ok-funcs.ensures;
  inits = inits_map _ _ c.in_ok-inits.ensures;
  marks = marks_found _ _ _ c.in_ok-starts.ensures.sorted c.in_ok-publics.ensures.sorted c.in_ok-starts.ensures.same c.in_ok-publics.ensures.same;
  unders = c.in_ok-unders.ensures.unders;
  held = c.in_ok-unders.ensures.held;
  numbers = c.in_ok-numbers.ensures;
})
