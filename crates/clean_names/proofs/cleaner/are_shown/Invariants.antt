use Rattle.std.proofs.Common.{◌≡◌, take}
use Rattle.std.specs.List.{list_all}
use Rattle.std.specs.Prelude.{◌==◌}
use Rattle.clean_names.specs.Cleaning.{shown_byte}
use Rattle.clean_names.proofs.cleaner.are_shown.Given as goal

abbrev pub invariant-loop-at : goal.invariant-loop-at
invariant-loop-at l = l.shown ≡ list_all (λ b. shown_byte b == b) (take l.at l.bytes)
