use Rattle.std.specs.Prelude.{⊤}
use Rattle.sym_grammar.proofs.ReaderLemmas.{ended_stopped, stopped_end}
use Rattle.sym_grammar.proofs.reader.Reader.finish.Goals as goal

pub returns-in-Some-clause-finishes : goal.returns-in-Some-clause-finishes
returns-in-Some-clause-finishes c = stopped_end c.in-Some.stop _ c.self.inside.stop c.args.self _ c.self.view_is c.in-Some.is

pub returns-in-Err-clause-finishes : goal.returns-in-Err-clause-finishes
returns-in-Err-clause-finishes c = ended_stopped ⊤ c.in-Err.stop _ _ _ _ c.self.inside.stop c.args.self _ c.self.view_is c.in-None.is c.self.invariant.one_line c.as_slice.ensures.value c.in-Err.ensures
