use Rattle.std.proofs.Common.{◌≡◌, ◌≤◌}
use Rattle.expr_steps.specs.Steps.{mask_size}
use Rattle.expr_steps.proofs.step_reader.mask_size.Given as goal

abbrev pub invariant-sizes : goal.invariant-sizes
invariant-sizes l = record {
  low : l.bits ≤ 63;
  same : mask_size 63 l.value ≡ mask_size l.bits l.value;
}

abbrev pub decreases-sizes : goal.decreases-sizes
decreases-sizes l = l.bits
