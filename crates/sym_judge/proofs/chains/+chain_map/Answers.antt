use Rattle.std.proofs.lemmas.Result.{IfOk-weaker}
use Rattle.sym_judge.proofs.ChainLemmas.{halves_mapped}
use Rattle.sym_judge.proofs.chains.+chain_map.Goals as goal

pub returns-clause-mapped : goal.returns-clause-mapped
returns-clause-mapped t c =
    IfOk-weaker c.joined_map.result _ _ (λ map told. halves_mapped c.args.calls.now.own c.args.calls.now.other _ _ _ c.args.levels.now _ _ c.half_of.result c.in_ok-first.first c.in_ok-second.second map c.split_at.ensures.front c.split_at.ensures.back
    c.in_ok-second.ensures.keeps c.in_ok-first.ensures.mapped c.in_ok-second.ensures.mapped told) c.joined_map.ensures.mapped
