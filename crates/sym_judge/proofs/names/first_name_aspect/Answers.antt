use Rattle.std.proofs.Common.{sym, subst}
use Rattle.sym_judge.specs.internal.Chains.{AreFuncPairs}
use Rattle.sym_judge.proofs.NameLemmas.{owners_at}
use Rattle.sym_judge.proofs.names.first_name_aspect.Goals as goal

pub first_by_answers-requires-in-None : goal.first_by_answers-requires-in-None
first_by_answers-requires-in-None c = owners_at c.args.both.now.own c.args.both.now.other c.args.address _ _ _ c.in-Some.ensures.own c.in-Some.ensures.other (c.in-Some.ensures.is c.args.both.now.own c.args.both.now.other (subst (AreFuncPairs c.args.both.now.own c.args.both.now.other) (sym c.as_slice.ensures.value) c.requires.pairs)).named
