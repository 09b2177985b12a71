use Rattle.std.proofs.Common.{◌≡◌, ℕ, List, ◌||◌, length}
use Rattle.func_records.specs.internal.Calls.{AreKnown}
use Rattle.func_records.specs.internal.Gathering.{has_path, any_call}
use Rattle.func_records.proofs.call_paths.gather_calls.Given as goal

abbrev pub invariant-copies : goal.invariant-copies
invariant-copies l = record {
  known : AreKnown l.units l.unit l.rest → AreKnown l.units l.unit l.copies;
  same : (path : List ℕ) → (has_path l.units l.paths path || any_call l.units l.unit l.rest path) ≡ (has_path l.units l.fn.paths path || any_call l.units l.unit l.copies path);
}

abbrev pub decreases-copies : goal.decreases-copies
decreases-copies l = length l.rest
