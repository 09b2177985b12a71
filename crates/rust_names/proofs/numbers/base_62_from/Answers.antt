use Rattle.std.proofs.Common.{sym, ◌∙◌, Some, None}
use Rattle.rust_names.proofs.NumberLemmas.{base_stop, base_next, base_end}
use Rattle.rust_names.proofs.numbers.base_62_from.Goals as goal

pub returns-in-Some-clause-number : goal.returns-in-Some-clause-number
returns-in-Some-clause-number c = sym (base_stop c.args.bytes.now c.split_at.result.1.now c.digits.at c.digits.value (Some c.in-Some.number) c.digits-test.true c.if-b-eq95.true c.split_at.ensures.back c.in-Some.ensures) ∙ c.digits.invariant

pub returns-in-None-clause-number : goal.returns-in-None-clause-number
returns-in-None-clause-number c = sym (base_stop c.args.bytes.now c.split_at.result.1.now c.digits.at c.digits.value None c.digits-test.true c.if-b-eq95.true c.split_at.ensures.back c.in-None.ensures) ∙ c.digits.invariant

pub digits-preserved : goal.digits-preserved
digits-preserved c = sym (base_next c.args.bytes.now c.digits.at c.digits.value (Some c.in-Some-next_62.more) c.digits-test.true c.if-b-eq95.false c.in-Some-next_62.ensures) ∙ c.digits.invariant

pub returns-in-None-next_62-clause-number : goal.returns-in-None-next_62-clause-number
returns-in-None-next_62-clause-number c = sym (base_next c.args.bytes.now c.digits.at c.digits.value None c.digits-test.true c.if-b-eq95.false c.in-None-next_62.ensures) ∙ c.digits.invariant

pub returns-clause-number : goal.returns-clause-number
returns-clause-number c = sym (base_end c.args.bytes.now c.digits.at c.digits.value c.digits-test.false) ∙ c.digits.invariant
