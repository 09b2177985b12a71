use Rattle.std.proofs.Common.{◌≡◌, ◌≤◌, ◌+◌, ◌-◌, Some}
use Rattle.expr_steps.specs.internal.Reading.{IsAtMost, standing_behind}
use Rattle.expr_steps.specs.Steps.{steps}
use Rattle.expr_steps.proofs.standing.find_standing.Given as goal

abbrev pub invariant-steps : goal.invariant-steps
invariant-steps l = record {
  few : l.count ≤ 1024;
  free : IsAtMost (l.count + 1) l.free;
  over : IsAtMost (l.count + 1) l.over;
  same : standing_behind l.start l.count l.free l.over l.reader ≡ standing_behind l.start 0 (Some 0) (Some 1) (steps l.expr);
}

abbrev pub decreases-steps : goal.decreases-steps
decreases-steps l = 1025 - l.count
