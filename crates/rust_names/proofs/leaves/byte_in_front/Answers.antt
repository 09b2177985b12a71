use Rattle.rust_names.proofs.LeafLemmas.{byte_some}
use Rattle.rust_names.proofs.leaves.byte_in_front.Goals as goal

pub returns-in-Some-hex_digit-2-clause-byte : goal.returns-in-Some-hex_digit-2-clause-byte
returns-in-Some-hex_digit-2-clause-byte c = byte_some c.args.a c.in-Some.b c.in-Some-hex_digit.high c.in-Some-hex_digit-2.low c.args.digits.now c.in-Some.after.now c.in-Some.ensures.front c.in-Some-hex_digit.ensures.value c.in-Some-hex_digit-2.ensures.value
