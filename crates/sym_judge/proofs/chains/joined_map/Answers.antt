use Rattle.std.proofs.Common.{◌<◌, arith, subst}
use Rattle.sym_lookup.specs.PlaceMaps.{IsBefore}
use Rattle.sym_judge.proofs.ChainLemmas.{joined_more, joined_done}
use Rattle.sym_judge.proofs.chains.joined_map.Goals as goal

pub returns-in-None-clause-mapped : goal.returns-in-None-clause-mapped
returns-in-None-clause-mapped c = λ own lines ms ns first second.
    joined_done own lines c.args.numbers.now.entries.items _ _ ms ns c.args.front.now c.args.back.now c.runs.address c.nearer.result c.part_run-mine.result.end c.part_run-theirs.result.end _ _ _ _ _ c.runs.invariant.keeps c.in_ok-part.ensures.keeps c.in_ok-set.ensures.at
    c.part_run-mine.ensures.same c.part_run-theirs.ensures.same c.nearer.ensures.both c.in_ok-part.ensures.part c.in-None.is first second (c.runs.invariant.mapped own lines ms ns first second)

pub runs-preserved : goal.runs-preserved
runs-preserved c =
    let up : c.runs.address < c.in-Some.end = subst (λ o. IsBefore o c.runs.address) c.in-Some.is (c.nearer.ensures.above c.runs.address c.part_run-mine.ensures.above c.part_run-theirs.ensures.above) in
    record {
      keeps = λ n e is. c.in_ok-part.ensures.keeps n e (c.runs.invariant.keeps n e is);
      last = omega (arith, c.in_ok-set.ensures.last);
      mapped = λ own lines ms ns first second.
          joined_more own lines c.args.numbers.now.entries.items _ _ ms ns c.args.front.now c.args.back.now c.runs.address c.in-Some.end c.nearer.result c.part_run-mine.result.end c.part_run-theirs.result.end _ _ _ _ _ c.runs.invariant.keeps c.in_ok-part.ensures.keeps c.in_ok-set.ensures.at
          c.part_run-mine.ensures.same c.part_run-theirs.ensures.same c.nearer.ensures.both c.in_ok-part.ensures.part c.in-Some.is first second (c.runs.invariant.mapped own lines ms ns first second);
    }
