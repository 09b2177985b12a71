use Rattle.std.proofs.Common.{take}
use Rattle.cfi_eval.proofs.TableLemmas.{Puts}
use Rattle.cfi_eval.proofs.rules.put_rules.Given as goal

abbrev pub invariant-rules : goal.invariant-rules
invariant-rules l = Puts (take l.rule-index l.rules) l.initial.table l.table
