use Rattle.std.proofs.Common.{◌≡◌, ◌≤◌, ℕ, length}
use Rattle.range_set.specs.Members.{holds_any}
use Rattle.range_set.specs.Canonical.{IsCanonical}
use Rattle.func_flatten.proofs.uncovered.pass_to.Given as goal

abbrev pub invariant-spans : goal.invariant-spans
invariant-spans l = record {
  canonical : IsCanonical l.rest;
  same : (b : ℕ) → l.address ≤ b → holds_any l.rest b ≡ holds_any l.spans b;
}

abbrev pub decreases-spans : goal.decreases-spans
decreases-spans l = length l.rest
