use Rattle.std.proofs.Common.{◌≡◌, take, drop}
use Rattle.func_records.specs.internal.Origins.{all_refs, ref_numbers}
use Rattle.func_records.specs.internal.Shares.{AreSplit}
use Rattle.func_records.proofs.speller.split_numbers.Given as goal

abbrev pub invariant-shares : goal.invariant-shares
invariant-shares l = record {
  split : AreSplit l.writer.numbers l.writer.units.now (take l.k l.shares) l.split.items;
  later : l.rest ≡ ref_numbers l.writer.numbers l.writer.units.now (all_refs (drop l.k l.shares));
}
