use Rattle.std.proofs.Common.{◌≡◌, ◌++◌, length}
use Rattle.step_maps.specs.SpanStretches.{span_stretches, AreFit}
use Rattle.step_maps.proofs.spans.push_spans.Given as goal

abbrev pub invariant-spans : goal.invariant-spans
invariant-spans l = record {
  same : l.stretches.items ++ span_stretches l.index l.class l.rest ≡ l.fn.stretches.items ++ span_stretches l.index l.class l.spans;
  fit : AreFit l.stretches.items;
}

abbrev pub decreases-spans : goal.decreases-spans
decreases-spans l = length l.rest
