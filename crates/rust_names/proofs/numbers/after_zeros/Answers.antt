use Rattle.std.proofs.Common.{arith, sym, ◌∙◌}
use Rattle.rust_names.proofs.NumberLemmas.{zeros_front}
use Rattle.rust_names.proofs.numbers.after_zeros.Goals as goal

pub zeros-preserved : goal.zeros-preserved
zeros-preserved c =
    (zeros_front c.zeros.rest.now c.split_at.result.0.now c.split_at.result.1.now 64 c.split_at.ensures.front c.split_at.ensures.back (sym c.are_zeros.ensures ∙ c.if-not-are_zeros.false) ∙ c.zeros.invariant.0, omega (arith, c.split_at.ensures.back_len, c.zeros.invariant.1))
