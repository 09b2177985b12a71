use Rattle.std.proofs.Common.{◌∙◌}
use Rattle.inline_chain.proofs.LevelLemmas.{level_more, level_ends, first_fit}
use Rattle.inline_chain.proofs.levels.level_under.Goals as goal

pub push_under-requires-clause-one : goal.push_under-requires-clause-one
push_under-requires-clause-one c = (first_fit _ _ _ c.in-Some.ensures.cases.0 c.level.invariant.left).0

pub level-preserved : goal.level-preserved
level-preserved c = record {
  fit = c.in_ok-push_under.ensures.fit;
  left = (first_fit _ _ _ c.in-Some.ensures.cases.0 c.level.invariant.left).1;
  at = λ y a. level_more _ _ _ _ _ _ y a c.in-Some.ensures.cases.0 (rw c.covers_in.ensures at c.in_ok-push_under.ensures.at y a) ∙ c.level.invariant.at y a;
}

pub returns-clause-at : goal.returns-clause-at
returns-clause-at c y a = level_ends _ _ _ y a c.in_default.ensures.cases ∙ c.level.invariant.at y a
