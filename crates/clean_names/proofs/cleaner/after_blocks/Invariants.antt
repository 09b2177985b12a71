use Rattle.std.proofs.Common.{◌≡◌, length}
use Rattle.clean_names.specs.Names.{is_space, skip}
use Rattle.clean_names.proofs.cleaner.after_blocks.Given as goal

abbrev pub invariant-passed : goal.invariant-passed
invariant-passed l = skip is_space l.rest ≡ skip is_space l.bytes

abbrev pub decreases-passed : goal.decreases-passed
decreases-passed l = length l.rest
