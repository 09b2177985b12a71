use Rattle.std.proofs.Common.{◌+◌, None, sym, ap, ◌∙◌, arith}
use Rattle.expr_steps.proofs.StandingLemmas.{deeper, stands_long, stands_more, standing_is}
use Rattle.expr_steps.proofs.standing.find_standing.Goals as goal

pub returns-then-count-gt-MAX_WORDS : goal.returns-then-count-gt-MAX_WORDS
returns-then-count-gt-MAX_WORDS c =
    let found = rw c.in-Ok-Some.field-0-is at c.in-Ok-Some.ensures in
    standing_is c.args.start c.args.expr.now None
    (sym c.steps.invariant.same
    ∙ stands_long c.args.start c.steps.count (c.steps.count + c.words-count.result) c.steps.free c.steps.over c.in-Ok-Some.step c.steps.reader c.next.new.self found
    (ap (λ n. c.steps.count + n) c.words-count.ensures) (omega arith))

pub steps-preserved : goal.steps-preserved
steps-preserved c =
    let found = rw c.in-Ok-Some.field-0-is at c.in-Ok-Some.ensures in
    let words = ap (λ n. c.steps.count + n) c.words-count.ensures in
    record {
      few = omega arith;
      free = deeper c.in-Ok-Some.step c.steps.count (c.steps.count + c.words-count.result) c.steps.free c.after-free.result words c.after-free.ensures c.steps.invariant.free;
      over = deeper c.in-Ok-Some.step c.steps.count (c.steps.count + c.words-count.result) c.steps.over c.after-over.result words c.after-over.ensures c.steps.invariant.over;
      same =
          sym (stands_more c.args.start c.steps.count (c.steps.count + c.words-count.result) c.steps.free c.steps.over c.after-free.result c.after-over.result
          c.in-Ok-Some.step c.steps.reader c.next.new.self found words c.after-free.ensures c.after-over.ensures) ∙ c.steps.invariant.same;
    }
