use Rattle.std.proofs.Common.{arith, refl, sym, take, ◌∙◌}
use Rattle.std.specs.Str.Parse.{digits_value}
use Rattle.rust_names.proofs.FrontLemmas.{not_empty}
use Rattle.rust_names.proofs.DigitLemmas.{number_other, number_past, number_is}
use Rattle.rust_names.proofs.part.number_upto.Goals as goal

pub returns-then-not-is_digit-clause-number : goal.returns-then-not-is_digit-clause-number
returns-then-not-is_digit-clause-number c = number_other c.args.most c.loop-b.b-index c.args.digits.now c.loop-b-test.true (sym c.is_digit.ensures ∙ c.if-not-is_digit.true)

pub returns-then-number-most-clause-number : goal.returns-then-number-most-clause-number
returns-then-number-most-clause-number c = number_past c.args.most c.loop-b.b-index (digits_value 10 (take c.loop-b.b-index c.args.digits.now)) c.args.digits.now refl (omega (arith, c.loop-b.invariant.0, c.if-number-most.true))

pub returns-clause-number : goal.returns-clause-number
returns-clause-number c =
    number_is c.args.most c.loop-b.number c.loop-b.b-index c.args.digits.now (omega (arith, c.loop-b-test.false)) (omega (arith, c.loop-b.invariant.0, c.requires, c.if-number-most.false)) c.loop-b.invariant.1 (not_empty c.args.digits.now c.is_empty.ensures c.if-is_empty.false) c.if-digits-eq48.false (omega (arith, c.if-number-most.false))
