use Rattle.std.proofs.Common.{nat_le, rules, arith}
use Rattle.std.proofs.lemmas.List.{drop_all}
use Rattle.std.proofs.lemmas.List.Sorted.{IsPartitionPoint-from_clause}
use Rattle.sym_edges.specs.Rising.{RisesFrom}
use Rattle.step_maps.proofs.SteppingLemmas.{Point, parted}
use Rattle.func_flatten.proofs.LineLemmas.{rising_same, line_at_stop, known_by, drop_next}
use Rattle.func_records.proofs.LinePathLemmas.{noting_start, noting_on, noting_end, noting_out}
use Rattle.func_records.proofs.line_paths.note_lines.Goals as goal

pub stops-init : goal.stops-init
stops-init c =
    let rising : RisesFrom 0 c.stops-stops.result.now = rising_same _ _ c.stops-stops.ensures.same c.stops-stops.ensures.rising in
    let point : Point c.stops-stops.result.now c.args.start c.partition_point-first.result
    = IsPartitionPoint-from_clause (λ s. nat_le s c.args.start) _ _ c.partition_point-first.ensures.partitioned (parted _ _ rising) (λ a r q k. search rules) in
    noting_start c.args.table.now c.stops-stops.result.now _ _ _ _ c.line_at-line.result _ c.stops-stops.ensures.same c.requires c.stops-stops.ensures.rising (omega arith) point c.line_at-line.ensures.line (known_by _ _ (c.line_at-line.ensures.known (omega arith)))

pub returns-then-end-stop : goal.returns-then-end-stop
returns-then-end-stop c =
    noting_end _ _ _ _ _ _ _ _ _ _ _ (drop_next c.stops-stops.result.now c.stops.place 0 (omega arith)) c.stops.invariant (omega arith) c.in_ok-note_line.ensures

pub stops-preserved : goal.stops-preserved
stops-preserved c =
    noting_on _ _ _ _ _ _ _ _ _ _ _ _ (drop_next c.stops-stops.result.now c.stops.place 0 (omega arith)) c.stops.invariant (omega arith)
    (line_at_stop c.args.table.now _ _ _ c.stops-stops.ensures.same c.line_from-next.ensures.line) (known_by _ _ c.line_from-next.ensures.known) c.in_ok-note_before.ensures

pub returns : goal.returns
returns c = noting_out _ _ _ _ _ _ _ _ _ c.stops.invariant (drop_all c.stops.place c.stops-stops.result.now (omega arith)) c.in_ok-note_line-2.ensures
