use Rattle.std.proofs.Common.{◌≡◌, ◌-◌, ◌^◌, take, min, length}
use Rattle.std.specs.List.{flat_map}
use Rattle.sym_records.specs.Listed.{said, spelled_field}
use Rattle.sym_records.proofs.lengths.fields_length.Given as goal

abbrev pub invariant-loop-field : goal.invariant-loop-field
invariant-loop-field l = l.total ≡ min (length (flat_map (λ f. spelled_field (said f)) (take l.field-index l.fields))) (2 ^ 64 - 1)
