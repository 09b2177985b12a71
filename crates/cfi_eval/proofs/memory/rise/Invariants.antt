use Rattle.std.proofs.Common.{◌≡◌, drop}
use Rattle.cfi_eval.specs.internal.Rising.{rise_from}
use Rattle.cfi_eval.proofs.memory.rise.Given as goal

abbrev pub invariant-runs : goal.invariant-runs
invariant-runs l = rise_from l.low (drop l.run-index l.runs) ≡ rise_from 0 l.runs
