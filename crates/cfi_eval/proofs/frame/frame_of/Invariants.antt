use Rattle.std.proofs.Common.{◌≡◌, ◌<◌, ℕ, length, get_or}
use Rattle.cfi_eval.specs.declared.outcome.Outcome.TheVariants.{Undefined}
use Rattle.cfi_eval.specs.TextValue.{text_register}
use Rattle.cfi_eval.proofs.frame.frame_of.Given as goal

abbrev pub invariant-registers : goal.invariant-registers
invariant-registers g l = record {
  many : length l.values ≡ 16;
  known : (k : ℕ) → k < l.register → get_or l.values k Undefined ≡ text_register l.regs (g.M.ByteMemory.runs l.memory) l.rules k;
}
