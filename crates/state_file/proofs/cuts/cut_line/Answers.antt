use Rattle.state_file.proofs.CutLemmas.{line_last, line_first}
use Rattle.state_file.proofs.cuts.cut_line.Goals as goal

pub returns-in-Some-clause-lines : goal.returns-in-Some-clause-lines
returns-in-Some-clause-lines c = line_first _ _ _ _ c.in-Some.ensures c.split_at.ensures.front c.split_at-in-Some.ensures.back

pub returns-in-None-clause-lines : goal.returns-in-None-clause-lines
returns-in-None-clause-lines c = line_last _ c.in-None.ensures
