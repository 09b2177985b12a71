use Rattle.std.proofs.Common.{sym}
use Rattle.sym_judge.proofs.file_pair.FilePair.is_same_name.Goals as goal

pub returns-then-have_one_name : goal.returns-then-have_one_name
returns-then-have_one_name c = sym (c.if-have_one_name.ensures c.args.numbered c.args.self.now.own c.args.self.now.other c.names-names.ensures.aliases)
