use Rattle.std.proofs.Common.{◌≡◌, length}
use Rattle.sym_judge.specs.internal.Blocks.{same_name, AreTold}
use Rattle.sym_judge.proofs.file_pair.same_names.Given as goal

abbrev pub invariant-numbers : goal.invariant-numbers
invariant-numbers l = record {
  told : AreTold (same_name l.numbered) l.own l.other l.told.items;
  many : length l.told.items ≡ l.number;
}
