use Rattle.std.proofs.Common.{◌≡◌, ◌∷◌, ◌||◌, not, false, None, length}
use Rattle.std.specs.List.{list_any}
use Rattle.frame_rows.specs.Steps.{has_cfa}
use Rattle.frame_rows.proofs.entry_rows.lack_cfa.Given as goal

abbrev pub invariant-rows : goal.invariant-rows
invariant-rows l = record {
  fresh : l.stepper.failed ≡ false;
  going : l.stepper.refused ≡ None;
  fault : l.stepper.fault ≡ l.fn.stepper.fault;
  lack : (l.lacking || list_any (λ r. not (has_cfa r.row)) l.stepper.later) ≡ list_any (λ r. not (has_cfa r.row)) (l.fn.stepper.here ∷ l.fn.stepper.later);
}

abbrev pub decreases-rows : goal.decreases-rows
decreases-rows l = length l.stepper.later
