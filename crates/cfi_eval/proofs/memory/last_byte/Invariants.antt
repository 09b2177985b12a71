use Rattle.std.proofs.Common.{◌≡◌, take}
use Rattle.cfi_eval.specs.Bytes.{byte_at}
use Rattle.cfi_eval.proofs.memory.last_byte.Given as goal

abbrev pub invariant-runs : goal.invariant-runs
invariant-runs l = byte_at l.runs l.a ≡ byte_at (take l.place l.runs) l.a
