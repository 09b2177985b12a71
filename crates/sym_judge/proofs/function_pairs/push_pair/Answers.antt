use Rattle.std.proofs.Common.{rules, sym, subst}
use Rattle.std.proofs.lemmas.List.Elements.{All-push}
use Rattle.sym_judge.specs.internal.Chains.{IsFuncPair, AreFuncPairs}
use Rattle.sym_judge.proofs.function_pairs.push_pair.Goals as goal

pub returns : goal.returns
returns c = subst (AreFuncPairs c.args.both.now.own c.args.both.now.other) (sym c.in_ok-push.ensures.items)
    (All-push (IsFuncPair c.args.both.now.own c.args.both.now.other) _ _ c.requires (record { named = search rules }))
