use Rattle.std.proofs.Common.{◌-◌, take, drop}
use Rattle.rule_postfix.specs.Written.{Decided, with_entries}
use Rattle.rule_postfix.specs.internal.Deciding.{Shows}
use Rattle.rule_postfix.specs.internal.Keeping.{KeptForAll}
use Rattle.rule_postfix.proofs.progress.put_range.Given as goal

abbrev pub invariant-entries : goal.invariant-entries
invariant-entries l = record {
  shown : (d : Decided) → Shows l.setting.base l.initial.progress d → Shows l.setting.base l.progress (with_entries l.setting.code.now (take (l.i - l.from) (drop l.from l.entries)) d);
  kept : KeptForAll l.states l.entries;
}
