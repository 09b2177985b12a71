use Rattle.std.proofs.Common.{◌∙◌, refl, arith}
use Rattle.inline_chain.proofs.LevelLemmas.{under_begins, under_more, under_past, under_ends, runs_later, reach_later, cut_fit}
use Rattle.inline_chain.proofs.levels.push_under.Goals as goal

pub covers-init : goal.covers-init
covers-init c = rw c.split_at.ensures.back (record {
  runs = c.count_below.ensures.runs;
  reach = c.count_below.ensures.reach;
  fit = c.requires.fit;
  at = under_begins c.args.next.now.items c.args.covers.now _ c.args.around _ c.count_below.ensures refl;
})

pub returns-then-cover-around-clause-at : goal.returns-then-cover-around-clause-at
returns-then-cover-around-clause-at c y a = under_past _ _ _ _ c.args.around y a c.in-Some.ensures.cases.0 c.covers.invariant.runs c.if-cover-around.true ∙ c.covers.invariant.at y a

pub covers-preserved : goal.covers-preserved
covers-preserved c = rw (c.in_ok-push.ensures.items, c.cut.ensures) (record {
  runs = runs_later _ _ _ c.in-Some.ensures.cases.0 c.covers.invariant.runs;
  reach = reach_later _ _ _ _ c.in-Some.ensures.cases.0 c.covers.invariant.reach;
  fit = cut_fit _ _ _ _ c.args.around c.in-Some.ensures.cases.0 c.covers.invariant.runs c.covers.invariant.reach c.requires.one (omega arith) c.covers.invariant.fit;
  at = λ y a. under_more _ _ _ _ c.args.around y a c.in-Some.ensures.cases.0 c.covers.invariant.runs ∙ c.covers.invariant.at y a;
})

pub returns-clause-at : goal.returns-clause-at
returns-clause-at c y a = under_ends _ _ c.args.around y a c.in_default.ensures.cases ∙ c.covers.invariant.at y a
