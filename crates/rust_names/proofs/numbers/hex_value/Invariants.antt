use Rattle.std.proofs.Common.{◌≡◌, drop}
use Rattle.rust_names.specs.V0Numbers.{hex_from}
use Rattle.rust_names.proofs.numbers.hex_value.Given as goal

abbrev pub invariant-digits : goal.invariant-digits
invariant-digits l = hex_from l.value (drop l.b-index l.digits) ≡ hex_from 0 l.digits
