use Rattle.std.proofs.Common.{◌≡◌, ◌≤◌, length, take}
use Rattle.sym_rules.specs.Cuts.{is_margin, trim_end}
use Rattle.sym_rules.proofs.cuts.trim_margin.Given as goal

abbrev pub invariant-ends : goal.invariant-ends
invariant-ends l = record {
  within : l.end ≤ length l.bytes;
  front : trim_end is_margin l.bytes ≡ trim_end is_margin (take l.end l.bytes);
}

abbrev pub decreases-ends : goal.decreases-ends
decreases-ends l = l.end
