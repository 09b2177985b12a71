use Rattle.std.proofs.Common.{◌≡◌, ◌≤◌, length}
use Rattle.sym_rules.specs.RuleReading.{words}
use Rattle.sym_grammar.specs.internal.Runs.{token_run, put_before}
use Rattle.sym_grammar.proofs.rules.more_tokens.Given as goal

abbrev pub invariant-turns : goal.invariant-turns
invariant-turns l = record {
  so_far : put_before l.fn.first.items (token_run (words l.bytes)) ≡ put_before l.tokens.items (token_run (words l.rest));
  shorter : length l.rest ≤ length l.bytes;
}

abbrev pub decreases-turns : goal.decreases-turns
decreases-turns l = length l.rest
