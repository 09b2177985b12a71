use Rattle.std.proofs.Common.{◌≡◌, ◌-◌, ◌++◌, ◌∷◌, [], append_assoc, ◌∙◌, arith}
use Rattle.step_maps.specs.SpanStretches.{span_stretches}
use Rattle.step_maps.proofs.SpanLemmas.{fit_joined}
use Rattle.step_maps.proofs.spans.push_spans.Goals as goal

pub spans-preserved : goal.spans-preserved
spans-preserved c =
    let m : c.spans.stretches.items ++ span_stretches c.args.index c.args.class (c.in-Some.span.now ∷ c.in-Some.later.now) ≡ c.args.stretches.now.items ++ span_stretches c.args.index c.args.class c.args.spans.now
    = rw c.in-Some.ensures.cases.0 at c.spans.invariant.same in
    rw (c.in_ok-push.ensures.items, c.start.ensures.start, c.end.ensures.end) (record {
      same = append_assoc c.spans.stretches.items (record { first = c.in-Some.span.now.start; last = c.in-Some.span.now.end - 1; index = c.args.index; class = c.args.class } ∷ []) (span_stretches c.args.index c.args.class c.in-Some.later.now) ∙ m;
      fit = fit_joined _ _ c.spans.invariant.fit (omega arith) (omega arith);
    })
