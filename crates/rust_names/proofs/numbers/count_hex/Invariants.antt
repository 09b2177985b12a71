use Rattle.std.proofs.Common.{◌≡◌, take, drop}
use Rattle.rust_names.specs.V0Numbers.{hex_digits}
use Rattle.rust_names.proofs.NumberLemmas.{after_digits}
use Rattle.rust_names.proofs.numbers.count_hex.Given as goal

abbrev pub invariant-loop-at : goal.invariant-loop-at
invariant-loop-at l = hex_digits l.bytes ≡ after_digits (take l.at l.bytes) (hex_digits (drop l.at l.bytes))
