use Rattle.std.proofs.Common.{nat_eq, sym, ◌∙◌}
use Rattle.std.proofs.lemmas.List.Filters.{dedup_is}
use Rattle.sym_judge.specs.internal.Stops.{all_stops}
use Rattle.sym_judge.proofs.SameLemmas.{numbers}
use Rattle.sym_judge.proofs.StopLemmas.{none_left}
use Rattle.sym_judge.proofs.StopListLemmas.{nowhere, kept}
use Rattle.sym_judge.proofs.record_stops.half_stops.Goals as goal

pub returns-then-is_empty : goal.returns-then-is_empty
returns-then-is_empty c = nowhere c.args.doubts.now c.stops.result.now (all_stops c.args.half c.args.own.now c.args.other.now) _ c.stops.ensures.same (none_left _ (numbers _ 0 (sym c.is_empty.ensures ∙ c.if-is_empty.true)))

pub returns : goal.returns
returns c =
    kept c.args.half c.args.own.now c.args.other.now c.args.doubts.now _ _ _ _ _ _ c.new-stops.ensures.items c.in_ok-push_stop.ensures c.in_ok-push_lines.ensures c.in_ok-push_lines-2.ensures c.sort_unstable.ensures.permutation (dedup_is nat_eq _ _ c.dedup.ensures.filtered)
