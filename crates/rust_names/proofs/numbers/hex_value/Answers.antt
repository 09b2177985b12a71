use Rattle.std.proofs.Common.{sym, ◌∙◌}
use Rattle.rust_names.proofs.NumberLemmas.{value_next, value_end}
use Rattle.rust_names.proofs.numbers.hex_value.Goals as goal

pub returns-in-None : goal.returns-in-None
returns-in-None c = sym (value_next c.args.digits.now c.digits.b-index c.digits.value _ c.digits-test.true c.in-None.ensures) ∙ c.digits.invariant

pub digits-preserved : goal.digits-preserved
digits-preserved c = sym (value_next c.args.digits.now c.digits.b-index c.digits.value _ c.digits-test.true c.in-Some.ensures) ∙ c.digits.invariant

pub returns : goal.returns
returns c = sym (value_end c.args.digits.now c.digits.b-index c.digits.value c.digits-test.false) ∙ c.digits.invariant
