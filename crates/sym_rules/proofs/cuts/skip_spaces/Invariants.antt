use Rattle.std.proofs.Common.{◌≡◌, drop}
use Rattle.sym_rules.specs.Cuts.{is_space, skip}
use Rattle.sym_rules.proofs.cuts.skip_spaces.Given as goal

abbrev pub invariant-loop-at : goal.invariant-loop-at
invariant-loop-at l = skip is_space (drop l.at l.bytes) ≡ skip is_space l.bytes
