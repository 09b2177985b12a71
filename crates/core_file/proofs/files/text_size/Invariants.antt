use Rattle.std.proofs.Common.{◌≡◌, ◌+◌, drop}
use Rattle.std.specs.Prelude.{◌==◌, not}
use Rattle.std.specs.List.{prefix_len}
use Rattle.core_file.proofs.files.text_size.Given as goal

abbrev pub invariant-loop-size : goal.invariant-loop-size
invariant-loop-size l = l.size + prefix_len (λ b. not (b == 0)) (drop l.size (drop l.from l.note)) ≡ prefix_len (λ b. not (b == 0)) (drop l.from l.note)
