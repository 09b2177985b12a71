use Rattle.std.proofs.Common.{◌≡◌, ◌<◌, ℕ, length, get_or, None}
use Rattle.stack_walk.specs.Walk.{value_of}
use Rattle.cfi_eval.specs.declared.outcome.Outcome.TheVariants.{Undefined}
use Rattle.stack_walk.proofs.callers.values_of.Given as goal

abbrev pub invariant-registers : goal.invariant-registers
invariant-registers l = record {
  many : length l.values ≡ 16;
  known : (k : ℕ) → k < l.register → get_or l.values k None ≡ value_of (get_or l.outcomes k Undefined);
}
