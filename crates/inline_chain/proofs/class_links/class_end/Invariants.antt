use Rattle.std.proofs.Common.{ℕ, ◌≤◌, length}
use Rattle.inline_chain.specs.internal.Copies.{HaveClasses}
use Rattle.inline_chain.proofs.class_links.class_end.Given as goal

abbrev pub invariant-items : goal.invariant-items
invariant-items l = (n : ℕ) → l.end ≤ n → HaveClasses n l.rest → HaveClasses n l.items

abbrev pub decreases-items : goal.decreases-items
decreases-items l = length l.rest
