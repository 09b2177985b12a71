use Rattle.std.proofs.Common.{◌≡◌, take}
use Rattle.std.specs.List.{list_all}
use Rattle.rust_names.specs.V0Identifiers.{is_identifier_byte}
use Rattle.rust_names.proofs.identifiers.are_many_identifier_bytes.Given as goal

abbrev pub invariant-loop-at : goal.invariant-loop-at
invariant-loop-at l = l.all ≡ list_all is_identifier_byte (take l.at l.bytes)
