use Rattle.std.proofs.Common.{◌≡◌, ◌++◌, take}
use Rattle.rule_postfix.proofs.shares.take_all.Given as goal

abbrev pub invariant-spans : goal.invariant-spans
invariant-spans l = l.taken ≡ l.initial.taken ++ take l.k l.spans
