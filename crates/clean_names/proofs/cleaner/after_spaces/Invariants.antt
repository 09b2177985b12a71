use Rattle.std.proofs.Common.{◌≡◌, drop}
use Rattle.clean_names.specs.Names.{is_space, skip}
use Rattle.clean_names.proofs.cleaner.after_spaces.Given as goal

abbrev pub invariant-loop-at : goal.invariant-loop-at
invariant-loop-at l = skip is_space (drop l.at l.bytes) ≡ skip is_space l.bytes
