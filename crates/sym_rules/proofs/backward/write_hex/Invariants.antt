use Rattle.std.proofs.Common.{◌≡◌, ◌<◌, ◌-◌, ◌*◌, ◌^◌, ◌++◌, false, drop}
use Rattle.std.specs.Fmt.{digits}
use Rattle.sym_rules.proofs.DigitsLemmas.{hex_left}
use Rattle.sym_rules.proofs.backward.write_hex.Given as goal

abbrev pub invariant-loop-done : goal.invariant-loop-done
invariant-loop-done l = record {
  some : 0 < l.done → 0 < l.rest;
  small : l.rest < 256 ^ (8 - l.done);
  written : hex_left (64 - 2 * l.done) l.rest (drop (l.end - 2 * l.done) l.line) ≡ digits 16 false l.number ++ drop l.end l.fn.line;
}
