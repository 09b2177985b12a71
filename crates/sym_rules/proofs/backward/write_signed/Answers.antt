use Rattle.std.proofs.Common.{◌++◌, ap, arith, rules, to_z-of_z, drop}
use Rattle.std.proofs.lemmas.Fmt.{length-decimal-le}
use Rattle.itoa.proofs.Decimal.{minus_first}
use Rattle.sym_rules.proofs.backward.write_signed.Goals as goal

pub write_digits-start-requires : goal.write_digits-start-requires
write_digits-start-requires c = (omega (arith, length-decimal-le 19 c.unsigned_abs.result (omega arith) (omega arith) (omega arith)), search rules)

pub write_byte-requires-clause-some : goal.write_byte-requires-clause-some
write_byte-requires-clause-some c = omega (arith, length-decimal-le 19 c.unsigned_abs.result (omega arith) (omega arith) (omega arith))

pub returns-then-number-ge0-clause-short : goal.returns-then-number-ge0-clause-short
returns-then-number-ge0-clause-short c = omega (arith, length-decimal-le 19 c.unsigned_abs.result (omega arith) (omega arith) (omega arith))

pub returns-clause-short : goal.returns-clause-short
returns-clause-short c = omega (arith, length-decimal-le 19 c.unsigned_abs.result (omega arith) (omega arith) (omega arith))

pub returns-clause-written : goal.returns-clause-written
returns-clause-written c =
    let w = c.write_digits-start in
    let back = to_z-of_z c.ranges.number in
    rw (c.write_byte.ensures.written, w.ensures.written, c.unsigned_abs.ensures.value, back)
    (ap (λ l. l ++ drop c.args.end c.args.line.now) (minus_first c.args.number (rw back at c.if-number-ge0.false)))
