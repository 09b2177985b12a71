use Rattle.std.proofs.Common.{◌∙◌, ap, arith}
use Rattle.range_union.specs.Ranges.{range_to}
use Rattle.rule_postfix.proofs.OverlapLemmas.{grows_by, union_next}
use Rattle.rule_postfix.proofs.written_ranges.union_of.Goals as goal

pub spans-preserved : goal.spans-preserved
spans-preserved c =
    union_next c.args.spans.now c.spans.k c.index-spans-k.result c.spans.united c.add.new.self c.spans.invariant (omega arith) c.index-spans-k.is
    (grows_by c.spans.united c.add.new.self (range_to c.from.result c.from-in-spans.result) c.index-spans-k.result
    (ap (λ s. range_to s c.from-in-spans.result) (c.from.ensures ∙ c.start.ensures.start) ∙ ap (range_to c.index-spans-k.result.start) (c.from-in-spans.ensures ∙ c.end.ensures.end))
    c.in_ok-add.ensures.more)
