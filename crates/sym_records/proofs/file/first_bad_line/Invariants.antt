use Rattle.std.proofs.Common.{◌≡◌, drop}
use Rattle.sym_records.specs.Validity.{first_bad_from}
use Rattle.sym_records.specs.declared.place.Place.TheVariants.{Start}
use Rattle.sym_records.proofs.file.first_bad_line.Given as goal

abbrev pub invariant-loop-index : goal.invariant-loop-index
invariant-loop-index l = first_bad_from l.index l.place (drop l.index l.lines) ≡ first_bad_from 0 Start l.lines
