use Rattle.std.proofs.Common.{◌∙◌}
use Rattle.range_set.proofs.EnclosingLemmas.{permuted_encloses}
use Rattle.range_set.proofs.outermost.Enclosing.of_spans.Goals as goal

pub returns : goal.returns
returns c = record {
  same = λ start end.
      c.in_ok-outermost.ensures.same start end
      ∙ permuted_encloses c.args.spans.now c.as_slice.result.now start end (rw c.as_slice.ensures.value c.in_ok-sorted.ensures.permutation);
}
