use Rattle.std.proofs.Common.{◌≡◌, false, take}
use Rattle.std.specs.List.{list_any}
use Rattle.range_union.specs.Ranges.{any_overlap}
use Rattle.rule_postfix.proofs.shares.meets_any.Given as goal

abbrev pub invariant-spans : goal.invariant-spans
invariant-spans l = list_any (λ range. any_overlap range l.taken) (take l.k l.spans) ≡ false
