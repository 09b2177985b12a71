use Rattle.std.proofs.Common.{◌≡◌, drop}
use Rattle.rust_names.specs.V0Numbers.{base_62_from}
use Rattle.rust_names.proofs.numbers.base_62_from.Given as goal

abbrev pub invariant-digits : goal.invariant-digits
invariant-digits l = base_62_from l.value (drop l.at l.bytes) ≡ base_62_from 0 l.bytes
