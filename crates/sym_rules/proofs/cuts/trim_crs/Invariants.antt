use Rattle.std.proofs.Common.{◌≡◌, ◌≤◌, length, take}
use Rattle.sym_rules.specs.Cuts.{is_cr, trim_end}
use Rattle.sym_rules.proofs.cuts.trim_crs.Given as goal

abbrev pub invariant-ends : goal.invariant-ends
invariant-ends l = record {
  within : l.end ≤ length l.bytes;
  front : trim_end is_cr l.bytes ≡ trim_end is_cr (take l.end l.bytes);
}

abbrev pub decreases-ends : goal.decreases-ends
decreases-ends l = l.end
