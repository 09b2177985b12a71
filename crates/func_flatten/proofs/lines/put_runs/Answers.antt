use Rattle.std.proofs.Common.{nat_le, rules, arith}
use Rattle.std.proofs.lemmas.List.{drop_all}
use Rattle.std.proofs.lemmas.List.Sorted.{IsPartitionPoint-from_clause}
use Rattle.sym_edges.specs.Rising.{RisesFrom}
use Rattle.step_maps.proofs.SteppingLemmas.{Point, parted}
use Rattle.func_flatten.proofs.LineLemmas.{rising_same, line_at_stop, walks_start, walks_on, walks_end, walks_out, known_by, drop_next}
use Rattle.func_flatten.proofs.lines.put_runs.Goals as goal

pub stops-init : goal.stops-init
stops-init c =
    let rising : RisesFrom 0 c.stops-stops.result.now = rising_same _ _ c.stops-stops.ensures.same c.stops-stops.ensures.rising in
    let point : Point c.stops-stops.result.now c.args.start c.partition_point-first.result
    = IsPartitionPoint-from_clause (λ s. nat_le s c.args.start) _ _ c.partition_point-first.ensures.partitioned (parted _ _ rising) (λ a r q k. search rules) in
    rw c.requires.none
    (walks_start c.args.table.now c.stops-stops.result.now _ _ _ c.line_at-now.result c.stops-stops.ensures.same c.requires.some c.stops-stops.ensures.rising (omega arith) point c.line_at-now.ensures.line (known_by _ _ (c.line_at-now.ensures.known (omega arith))))

pub returns-then-end-stop-clause-runs : goal.returns-then-end-stop-clause-runs
returns-then-end-stop-clause-runs c =
    rw c.in_ok-push_part.ensures
    (walks_end _ _ _ _ _ _ _ _ _ _ (drop_next c.stops-stops.result.now c.stops.place 0 (omega arith)) c.stops.invariant (omega arith)).0

pub returns-then-end-stop-clause-starts : goal.returns-then-end-stop-clause-starts
returns-then-end-stop-clause-starts c =
    rw c.in_ok-push_part.ensures
    (walks_end _ _ _ _ _ _ _ _ _ _ (drop_next c.stops-stops.result.now c.stops.place 0 (omega arith)) c.stops.invariant (omega arith)).1

pub stops-preserved : goal.stops-preserved
stops-preserved c =
    rw c.in_ok-push_part-2.ensures
    (walks_on _ _ _ _ _ _ _ _ _ _ _ (drop_next c.stops-stops.result.now c.stops.place 0 (omega arith)) c.stops.invariant (omega arith)
    (line_at_stop c.args.table.now _ _ _ c.stops-stops.ensures.same c.line_from-now.ensures.line) (known_by _ _ c.line_from-now.ensures.known))

pub returns-clause-runs : goal.returns-clause-runs
returns-clause-runs c = rw c.in_ok-push_part-3.ensures (walks_out _ _ _ _ _ _ _ _ c.stops.invariant (drop_all c.stops.place c.stops-stops.result.now (omega arith))).0

pub returns-clause-starts : goal.returns-clause-starts
returns-clause-starts c = rw c.in_ok-push_part-3.ensures (walks_out _ _ _ _ _ _ _ _ c.stops.invariant (drop_all c.stops.place c.stops-stops.result.now (omega arith))).1
