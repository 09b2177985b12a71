use Rattle.std.proofs.Common.{sym, ◌∙◌}
use Rattle.sym_lookup.proofs.IndexLemmas.{function_found, outside_found}
use Rattle.sym_lookup.proofs.index.Index.answer_at.Goals as goal

pub returns-in_ok-found-in-Some : goal.returns-in_ok-found-in-Some
returns-in_ok-found-in-Some c = function_found _ _ _ _ _ c.as_slice-lines.ensures.lines (sym c.func_in.ensures.place ∙ c.in-Some.is) c.in_ok-found-in-Some.ensures

pub returns-in-None : goal.returns-in-None
returns-in-None c =
    outside_found _ _ _ _ _ _ _ _ c.as_slice-lines.ensures.lines c.as_slice-starts.ensures.value c.as_slice-publics.ensures.value (sym c.func_in.ensures.place ∙ c.in-None.is) c.requires.marks c.outside.ensures
