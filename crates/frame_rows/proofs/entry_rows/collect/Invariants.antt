use Rattle.std.proofs.Common.{◌≡◌, ◌∷◌, ◌++◌, false, None, length}
use Rattle.frame_rows.proofs.entry_rows.collect.Given as goal

abbrev pub invariant-rows : goal.invariant-rows
invariant-rows l = record {
  fresh : l.stepper.failed ≡ false;
  going : l.stepper.refused ≡ None;
  fault : l.stepper.fault ≡ l.fn.stepper.fault;
  list : l.rows.items ++ l.stepper.later ≡ l.fn.stepper.here ∷ l.fn.stepper.later;
}

abbrev pub decreases-rows : goal.decreases-rows
decreases-rows l = length l.stepper.later
