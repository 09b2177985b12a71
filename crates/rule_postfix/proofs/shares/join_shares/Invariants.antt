use Rattle.std.proofs.Common.{◌≡◌, ◌*◌, ◌≤◌, ◌<◌, ℕ, length, take, get_or}
use Rattle.rule_postfix.specs.declared.progress.Progress.{Progress}
use Rattle.rule_postfix.specs.Written.{Decided, with_entries}
use Rattle.rule_postfix.specs.internal.Deciding.{Shows, none_decided}
use Rattle.unit_workers.specs.Shares.{share}
use Rattle.rule_postfix.proofs.shares.join_shares.Given as goal

abbrev pub invariant-shares : goal.invariant-shares
invariant-shares l = record {
  shown : (d : Decided) → Shows l.translator.base l.initial.progress d → Shows l.translator.base l.progress (with_entries l.translator.code (take (l.translator.size * l.k) l.translator.entries) d);
  each : (j : ℕ) (d : Progress) → l.k ≤ j → j < length l.parts.items → Shows l.translator.base (get_or l.parts.items j d) (with_entries l.translator.code (share l.translator.size j l.translator.entries) none_decided);
  long : length l.parts.items ≡ length l.fn.parts.items;
}
