use Rattle.std.proofs.Common.{nat_le, rules, sym, subst}
use Rattle.std.proofs.lemmas.List.Sorted.{IsPartitionPoint-from_clause}
use Rattle.sym_edges.specs.Rising.{RisesFrom}
use Rattle.step_maps.proofs.SteppingLemmas.{Point, parted}
use Rattle.sym_judge.proofs.ChainLemmas.{run_above, run_steady}
use Rattle.sym_judge.proofs.chains.part_run.Goals as goal

pub returns : goal.returns
returns c =
    let rising : RisesFrom 0 c.stops-stops.result.now = subst (λ ss. RisesFrom 0 ss) (sym c.stops-stops.ensures.same) c.stops-stops.ensures.stepping.rising in
    let point : Point c.stops-stops.result.now c.args.address c.partition_point-count.result
    = IsPartitionPoint-from_clause (λ s. nat_le s c.args.address) _ _ c.partition_point-count.ensures.partitioned (parted _ _ rising) (λ a r q k. search rules) in
    record {
      above = run_above _ _ _ _ point c.stop_at.ensures;
      same = run_steady _ _ _ _ _ _ c.stops-stops.ensures.stepping c.stops-stops.ensures.same point c.stop_at.ensures c.at.ensures;
    }
