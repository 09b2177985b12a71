use Rattle.std.proofs.Common.{◌≡◌, ◌≤◌, [], ◌∷◌, ◌++◌, true, length}
use Rattle.rust_names.specs.internal.Passing.{IsEnd}
use Rattle.rust_names.specs.internal.Running.{SameRun, is_made, weight}
use Rattle.rust_names.proofs.paths.enter.Given as goal

abbrev pub invariant-names : goal.invariant-names
invariant-names l = record {
  same : SameRun l.name (l.fn.stack.items ++ l.fn.frame ∷ []) l.fn.bytes (l.stack.items ++ l.frame ∷ []) l.rest;
  lighter : weight (length l.name) (l.stack.items ++ l.frame ∷ []) ≤ weight (length l.name) (l.fn.stack.items ++ l.fn.frame ∷ []);
  made : is_made l.frame.part ≡ true;
  ends : IsEnd l.fn.bytes l.rest;
}

abbrev pub decreases-names : goal.decreases-names
decreases-names l = length l.rest
