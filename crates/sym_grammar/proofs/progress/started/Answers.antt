use Rattle.sym_grammar.proofs.ProgressLemmas.{start_good}
use Rattle.sym_grammar.proofs.progress.started.Goals as goal

pub invariant_of-result : goal.invariant_of-result
invariant_of-result c = start_good c.new.result.items c.new.ensures.items
