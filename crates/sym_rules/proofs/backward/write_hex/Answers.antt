use Rattle.std.proofs.Common.{◌≡◌, ◌<◌, ◌-◌, ◌*◌, ◌^◌, ◌+◌, ◌%◌, arith, drop, ap, ◌∙◌}
use Rattle.sym_rules.proofs.DigitsLemmas.{hex_left, hex_first, pair_put, last_put, more_put, less_left}
use Rattle.sym_rules.proofs.backward.write_hex.Goals as goal

pub returns-then-rest-eq0-clause-written : goal.returns-then-rest-eq0-clause-written
returns-then-rest-eq0-clause-written c =
    ap (λ n. drop (c.write_byte-start.result + n) c.write_byte-start.new.line) c.from.ensures
    ∙ last_put _ _ _ _ (64 - 2 * c.loop-done.done) c.loop-done.rest (omega (arith, c.loop-done-test.true)) c.loop-done.invariant.written
    (pair_put _ _ _ (c.loop-done.rest % 256) (omega arith) c.write_byte-start.ensures.written c.write_byte-at.ensures.written) c.if-rest-eq0.true

pub loop-done-preserved : goal.loop-done-preserved
loop-done-preserved c = record {
  some = omega arith;
  small = less_left c.loop-done.rest c.loop-done.done c.loop-done.invariant.small c.loop-done-test.true;
  written = more_put _ _ _ c.write_byte-start.result (c.args.end - 2 * (c.loop-done.done + 1)) (64 - 2 * c.loop-done.done) (64 - 2 * (c.loop-done.done + 1)) c.loop-done.rest (omega (arith, c.loop-done-test.true)) (omega arith) c.loop-done.invariant.written
      (pair_put _ _ _ (c.loop-done.rest % 256) (omega arith) c.write_byte-start.ensures.written c.write_byte-at.ensures.written) c.if-rest-eq0.false;
}

pub unreachable-requires : goal.unreachable-requires
unreachable-requires c =
    let done : c.loop-done.done ≡ 8 = omega arith in
    let small : c.loop-done.rest < 256 ^ (8 - 8) = rw done at c.loop-done.invariant.small in
    omega (arith, small)

pub loop-done-init : goal.loop-done-init
loop-done-init c =
    let none : c.args.end - 2 * 0 ≡ c.args.end = omega arith in
    record {
      some = λ some. absurd (omega arith);
      small = omega arith;
      written = ap (λ k. hex_left 64 c.args.number (drop k c.args.line.now)) none ∙ hex_first c.args.number (drop c.args.end c.args.line.now);
    }
