use Rattle.std.proofs.Common.{◌≡◌, ◌≤◌, take, drop}
use Rattle.std.specs.Prelude.{◌==◌, count_by}
use Rattle.core_file.proofs.gather.count_zeros.Given as goal

abbrev pub invariant-loop-i : goal.invariant-loop-i
invariant-loop-i l = record {
  counted : l.zeros ≡ count_by (λ b. b == 0) (take l.i (drop l.from l.part));
  few : l.zeros ≤ l.i;
}
