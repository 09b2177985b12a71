use Rattle.std.proofs.Common.{arith, rules}
use Rattle.sym_rules.proofs.CutLemmas.{word_more, rest_more}
use Rattle.sym_grammar.proofs.DigitLemmas.{digit_more, no_digit}
use Rattle.sym_grammar.proofs.NumberLemmas.{hex_grows, hex_small}
use Rattle.sym_grammar.proofs.numbers.hex_field.Goals as goal

pub loop-at-init : goal.loop-at-init
loop-at-init c = record {
  word = search rules;
  rest = search rules;
  value = no_digit;
  room = omega arith;
  few = omega arith;
}

pub overflow_mul-n : goal.overflow_mul-n
overflow_mul-n c = omega (arith, hex_small c.loop-at.n c.loop-at.at c.loop-at.invariant.room (omega (arith, c.if-at-ge16.false)))

pub overflow_add-n : goal.overflow_add-n
overflow_add-n c =
    omega (arith, c.from.ensures, c.in-Some.ensures.small, hex_small c.loop-at.n c.loop-at.at c.loop-at.invariant.room (omega (arith, c.if-at-ge16.false)))

pub loop-at-preserved : goal.loop-at-preserved
loop-at-preserved c = record {
  word = word_more _ c.loop-at.at c.loop-at-test.true c.if-b-eq32.false c.loop-at.invariant.word;
  rest = rest_more _ c.loop-at.at c.loop-at-test.true c.if-b-eq32.false c.loop-at.invariant.rest;
  value = digit_more _ c.loop-at.at c.loop-at.n c.in-Some.v c.from.result c.loop-at-test.true c.in-Some.ensures.digit c.from.ensures c.loop-at.invariant.value;
  room = hex_grows c.loop-at.n c.from.result c.loop-at.at c.loop-at.invariant.room (omega (arith, c.from.ensures, c.in-Some.ensures.small));
  few = omega (arith, c.if-at-ge16.false);
}
