use Rattle.std.proofs.Common.{◌≡◌, ◌++◌}
use Rattle.stack_text.specs.FrameText.{registers_text}
use Rattle.stack_text.proofs.frame_text.add_registers.Given as goal

abbrev pub invariant-registers : goal.invariant-registers
invariant-registers l = l.text.items ≡ l.fn.text.items ++ registers_text l.frame l.register
