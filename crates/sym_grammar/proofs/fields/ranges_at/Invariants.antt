use Rattle.std.proofs.Common.{◌≡◌, length}
use Rattle.sym_rules.specs.Cuts.{is_space, skip}
use Rattle.sym_rules.specs.RuleReading.{words}
use Rattle.sym_records.specs.FieldReading.{pairs_of}
use Rattle.sym_grammar.specs.internal.Runs.{behind}
use Rattle.sym_grammar.proofs.fields.ranges_at.Given as goal

abbrev pub invariant-turns : goal.invariant-turns
invariant-turns l = record {
  stays : skip is_space l.rest ≡ l.rest;
  so_far : pairs_of (words l.bytes) ≡ behind l.ranges.items (pairs_of (words l.rest));
}

abbrev pub decreases-turns : goal.decreases-turns
decreases-turns l = length l.rest
