use Rattle.std.proofs.Common.{◌≡◌, map, take}
use Rattle.rust_names.specs.V0Identifiers.{dashed}
use Rattle.rust_names.proofs.leaves.dashed.Given as goal

abbrev pub invariant-letters : goal.invariant-letters
invariant-letters l = l.text.items ≡ map dashed (take l.b-index l.bytes)
