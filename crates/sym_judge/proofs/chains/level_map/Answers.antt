use Rattle.std.proofs.Common.{◌<◌, arith, subst}
use Rattle.sym_lookup.specs.PlaceMaps.{IsBefore}
use Rattle.sym_judge.proofs.ChainLemmas.{level_more, level_done}
use Rattle.sym_judge.proofs.chains.level_map.Goals as goal

pub returns-in-None-clause-mapped : goal.returns-in-None-clause-mapped
returns-in-None-clause-mapped c =
    level_done c.args.calls.now.own c.args.calls.now.other _ _ c.args.level.now c.runs.address c.place_run-run.result _ _ _ c.in_ok-part.ensures.keeps c.in_ok-set.ensures.at c.place_run-run.ensures c.in_ok-part.ensures.part c.in-None.is c.runs.invariant.mapped

pub runs-preserved : goal.runs-preserved
runs-preserved c =
    let up : c.runs.address < c.in-Some.end = subst (λ o. IsBefore o c.runs.address) c.in-Some.is c.place_run-run.ensures.above in
    record {
      keeps = λ n e is. c.in_ok-part.ensures.keeps n e (c.runs.invariant.keeps n e is);
      last = omega (arith, c.in_ok-set.ensures.last);
      mapped = level_more c.args.calls.now.own c.args.calls.now.other _ _ c.args.level.now c.runs.address c.in-Some.end c.place_run-run.result _ _ _ c.in_ok-part.ensures.keeps c.in_ok-set.ensures.at c.place_run-run.ensures c.in_ok-part.ensures.part c.in-Some.is c.runs.invariant.mapped;
    }
