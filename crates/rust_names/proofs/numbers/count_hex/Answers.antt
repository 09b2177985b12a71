use Rattle.rust_names.proofs.NumberLemmas.{hex_stop, hex_none, hex_more, hex_end}
use Rattle.rust_names.proofs.numbers.count_hex.Goals as goal

pub returns-then-b-eq95-clause-digits : goal.returns-then-b-eq95-clause-digits
returns-then-b-eq95-clause-digits c = hex_stop c.args.bytes.now c.loop-at.at c.loop-at-test.true c.if-b-eq95.true c.loop-at.invariant

pub returns-in-None-clause-digits : goal.returns-in-None-clause-digits
returns-in-None-clause-digits c = hex_none c.args.bytes.now c.loop-at.at c.loop-at-test.true c.if-b-eq95.false c.in-None.ensures.value c.loop-at.invariant

pub loop-at-preserved : goal.loop-at-preserved
loop-at-preserved c = hex_more c.args.bytes.now c.loop-at.at c.in-Some.field-0 c.loop-at-test.true c.if-b-eq95.false c.in-Some.ensures.value c.loop-at.invariant

pub returns-clause-digits : goal.returns-clause-digits
returns-clause-digits c = hex_end c.args.bytes.now c.loop-at.at c.loop-at-test.false c.loop-at.invariant
