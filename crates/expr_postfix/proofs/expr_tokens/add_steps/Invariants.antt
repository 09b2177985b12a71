use Rattle.std.proofs.Common.{◌≡◌, true}
use Rattle.std.specs.Option.{is_some}
use Rattle.expr_steps.specs.Steps.{steps}
use Rattle.expr_postfix.specs.internal.Adding.{added, count_left}
use Rattle.expr_postfix.proofs.expr_tokens.add_steps.Given as goal

abbrev pub invariant-steps : goal.invariant-steps
invariant-steps l = record {
  made : is_some l.reader ≡ true;
  same : added l.reader l.words.items ≡ added (steps l.expr) l.fn.words.items;
}

abbrev pub decreases-steps : goal.decreases-steps
decreases-steps l = count_left l.reader
