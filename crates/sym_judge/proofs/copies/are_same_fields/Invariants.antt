use Rattle.std.proofs.Common.{◌≡◌, map, take}
use Rattle.sym_records.specs.Listed.{said}
use Rattle.sym_judge.proofs.copies.are_same_fields.Given as goal

abbrev pub invariant-fields : goal.invariant-fields
invariant-fields l = map said (take l.i l.a) ≡ map said (take l.i l.b)
