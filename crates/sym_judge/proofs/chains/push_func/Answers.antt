use Rattle.std.proofs.Common.{ap, ◌∙◌}
use Rattle.sym_lookup.specs.Answers.{chain_places}
use Rattle.sym_judge.proofs.ChainLemmas.{one_more_func}
use Rattle.sym_judge.proofs.chains.push_func.Goals as goal

pub returns-clause-are : goal.returns-clause-are
returns-clause-are c =
    one_more_func c.args.calls.now.own c.args.calls.now.other _ _ c.in-Some.levels.now c.args.funcs.now.items _ (record { func = c.args.func; chains = c.in_ok-chains.chains }) c.in_ok-chains.ensures.keeps c.in_ok-push.ensures.items c.requires
    (λ x l. c.in-Some.ensures.chain x l ∙ ap (λ lines. chain_places lines c.args.func x) c.side.ensures) c.in_ok-chains.ensures.mapped
