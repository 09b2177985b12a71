use Rattle.std.proofs.Common.{◌≡◌, take}
use Rattle.std.specs.List.{flat_map}
use Rattle.sym_findings.specs.internal.Numbers.{file_number, origin_number}
use Rattle.sym_findings.proofs.numbers.numbers_in.Given as goal

abbrev pub invariant-loop-line : goal.invariant-loop-line
invariant-loop-line l = record {
  files : l.files.items ≡ flat_map file_number (take l.line-index l.lines);
  origins : l.origins.items ≡ flat_map origin_number (take l.line-index l.lines);
}
