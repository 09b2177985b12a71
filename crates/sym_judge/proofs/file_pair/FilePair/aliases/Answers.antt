use Rattle.std.proofs.lemmas.Result.{IfOk-weaker}
use Rattle.sym_judge.proofs.file_pair.FilePair.aliases.Goals as goal

pub returns : goal.returns
returns c = IfOk-weaker c.copied.result _ _ (λ aliases told. told c.args.numbered c.args.self.now.own c.args.self.now.other c.names.ensures.aliases) c.copied.ensures
