use Rattle.std.proofs.Common.{sym, ap, ◌∙◌}
use Rattle.std.specs.Option.{is_some}
use Rattle.sym_lookup.proofs.PartLemmas.{line_told, line_found, held_told}
use Rattle.sym_lookup.proofs.index.Index.line_at.Goals as goal

pub line_in-requires : goal.line_in-requires
line_in-requires c = line_told _ _ _ _ _ c.unders.ensures c.as_slice.ensures.lines c.in-Some.ensures.under c.requires.unders

pub returns-in-Some : goal.returns-in-Some
returns-in-Some c = record {
  held = sym (ap is_some c.in-Some.is) ∙ held_told _ _ _ c.args.func _ c.unders.ensures c.under_at.ensures.held c.requires.held;
  line = line_found _ _ _ _ _ _ c.as_slice.ensures.lines c.in-Some.ensures.func c.line_in.ensures;
}
