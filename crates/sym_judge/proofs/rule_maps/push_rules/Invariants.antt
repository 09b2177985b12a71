use Rattle.std.proofs.Common.{◌≡◌, ℕ, List, take}
use Rattle.step_maps.specs.Covers.{AreStretches}
use Rattle.sym_records.specs.declared.line.SymLine.{SymLine}
use Rattle.sym_rules.specs.declared.rules.RuleText.{RuleText}
use Rattle.sym_judge.specs.internal.Tables.{rules_at}
use Rattle.sym_judge.specs.internal.RuleMaps.{with_rules, AreLast}
use Rattle.sym_judge.proofs.rule_maps.push_rules.Given as goal

abbrev pub invariant-rules : goal.invariant-rules
invariant-rules l = record {
  fit : AreStretches l.items.items;
  last : (lines : List SymLine) (done : ℕ → List RuleText) → rules_at lines l.line ≡ l.rules → AreLast lines l.target l.initial.items.items done → AreLast lines l.target l.items.items (with_rules l.start (take l.rule l.rules) done);
}
