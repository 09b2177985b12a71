use Rattle.std.proofs.Common.{take}
use Rattle.rule_postfix.specs.internal.Taken.{AreAlike}
use Rattle.rule_postfix.proofs.written_ranges.union_of.Given as goal

abbrev pub invariant-spans : goal.invariant-spans
invariant-spans l = AreAlike (take l.k l.spans) l.united
