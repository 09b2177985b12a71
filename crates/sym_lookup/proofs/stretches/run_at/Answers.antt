use Rattle.std.proofs.Common.{nat_le, rules, sym, subst}
use Rattle.std.proofs.lemmas.List.Sorted.{IsPartitionPoint-from_clause}
use Rattle.sym_edges.specs.Rising.{RisesFrom}
use Rattle.step_maps.proofs.SteppingLemmas.{Point, parted}
use Rattle.sym_lookup.proofs.RunLemmas.{run_in_front, run_from_stop}
use Rattle.sym_lookup.proofs.stretches.run_at.Goals as goal

pub returns-then-count-eq0 : goal.returns-then-count-eq0
returns-then-count-eq0 c =
    let rising : RisesFrom 0 c.stops-stops.result.now = subst (λ ss. RisesFrom 0 ss) (sym c.stops-stops.ensures.same) c.stops-stops.ensures.stepping.rising in
    let point : Point c.stops-stops.result.now c.args.address c.partition_point-count.result
    = IsPartitionPoint-from_clause (λ s. nat_le s c.args.address) _ _ c.partition_point-count.ensures.partitioned (parted _ _ rising) (λ a r q k. search rules) in
    run_in_front _ _ _ _ _ c.stops-stops.ensures.stepping c.stops-stops.ensures.same point c.if-count-eq0.true c.stop_at-end.ensures

pub returns : goal.returns
returns c =
    let rising : RisesFrom 0 c.stops-stops.result.now = subst (λ ss. RisesFrom 0 ss) (sym c.stops-stops.ensures.same) c.stops-stops.ensures.stepping.rising in
    let point : Point c.stops-stops.result.now c.args.address c.partition_point-count.result
    = IsPartitionPoint-from_clause (λ s. nat_le s c.args.address) _ _ c.partition_point-count.ensures.partitioned (parted _ _ rising) (λ a r q k. search rules) in
    run_from_stop _ _ _ _ _ _ _ _ c.stops-stops.ensures.stepping c.stops-stops.ensures.same c.values-values.ensures.same point c.if-count-eq0.false c.partition_point-count.ensures.bound c.stop_at-end.ensures c.place_of-place.ensures
