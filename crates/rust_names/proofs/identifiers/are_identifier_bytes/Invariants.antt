use Rattle.std.proofs.Common.{◌≡◌, true, take}
use Rattle.std.specs.List.{list_all}
use Rattle.rust_names.specs.V0Identifiers.{is_identifier_byte}
use Rattle.rust_names.proofs.identifiers.are_identifier_bytes.Given as goal

abbrev pub invariant-loop-b : goal.invariant-loop-b
invariant-loop-b l = list_all is_identifier_byte (take l.b-index l.bytes) ≡ true
