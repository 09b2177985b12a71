use Rattle.std.proofs.Common.{◌<◌, ◌^◌, Some, ◌∙◌, ap, arith}
use Rattle.state_file.proofs.HexLemmas.{hex_more, hex_grows, hex_room}
use Rattle.state_file.proofs.numbers.hex_value.Goals as goal

pub overflow_mul-n : goal.overflow_mul-n
overflow_mul-n c = let room : c.digits.n < 2 ^ 60 = hex_room c.digits.n c.digits.at c.digits.invariant.room (omega arith) in omega arith

pub overflow_add-n : goal.overflow_add-n
overflow_add-n c =
    let room : c.digits.n < 2 ^ 60 = hex_room c.digits.n c.digits.at c.digits.invariant.room (omega arith) in
    let small = c.in-Some.ensures.small in
    omega (arith, small, c.from.ensures)

pub digits-preserved : goal.digits-preserved
digits-preserved c =
    let small = c.in-Some.ensures.small in
    record {
      value = hex_more c.args.word.now c.digits.at c.digits.n c.from.result c.digits-test.true (ap Some c.from.ensures ∙ c.in-Some.ensures.digit) c.digits.invariant.value;
      room = hex_grows c.digits.n c.from.result c.digits.at c.digits.invariant.room (omega (arith, small, c.from.ensures));
    }
