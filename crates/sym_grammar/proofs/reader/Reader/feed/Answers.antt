use Rattle.std.specs.Prelude.{⊤}
use Rattle.sym_grammar.proofs.ReaderLemmas.{fed_stopped, stopped_again}
use Rattle.sym_grammar.proofs.reader.Reader.feed.Goals as goal

pub returns-in-Some-clause-feeds : goal.returns-in-Some-clause-feeds
returns-in-Some-clause-feeds c = stopped_again ⊤ c.in-Some.stop _ c.self.inside.stop c.args.self.now c.args.self.now c.args.piece.now c.self.view_is c.in-Some.is

pub returns-in-Err-clause-feeds : goal.returns-in-Err-clause-feeds
returns-in-Err-clause-feeds c = fed_stopped ⊤ c.in-Err.stop _ c.self.inside.stop c.args.self.now _ c.args.piece.now _ c.self.view_is c.in-None.is c.in-Err.ensures.goes_on
