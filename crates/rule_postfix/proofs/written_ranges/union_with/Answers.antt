use Rattle.std.proofs.Common.{◌∙◌, ap}
use Rattle.range_union.specs.Ranges.{range_to}
use Rattle.rule_postfix.proofs.OverlapLemmas.{grows_by, union_push}
use Rattle.rule_postfix.proofs.written_ranges.union_with.Goals as goal

pub returns : goal.returns
returns c =
    union_push c.args.spans.now c.in_ok-united.united c.add.new.self (range_to c.args.start c.args.end) c.in_ok-united.ensures
    (grows_by c.in_ok-united.united c.add.new.self (range_to c.from.result c.from-2.result) (range_to c.args.start c.args.end)
    (ap (λ s. range_to s c.from-2.result) c.from.ensures ∙ ap (range_to c.args.start) c.from-2.ensures)
    c.in_ok-add.ensures.more)
