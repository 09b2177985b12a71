use Rattle.sym_grammar.proofs.CutLemmas.{no_line_end, line_cut}
use Rattle.sym_grammar.proofs.cuts.cut_line.Goals as goal

pub returns-in-Some-clause-cut : goal.returns-in-Some-clause-cut
returns-in-Some-clause-cut c = line_cut _ _ _ _ c.in-Some.ensures c.split_at.ensures.front c.split_at-in-Some.ensures.back

pub returns-in-None-clause-cut : goal.returns-in-None-clause-cut
returns-in-None-clause-cut c = no_line_end _ c.in-None.ensures
