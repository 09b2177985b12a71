use Rattle.std.proofs.Common.{◌≡◌, ◌+◌, [], ◌∷◌, length, arith}
use Rattle.std.proofs.lemmas.Bool.Decides.{nat_tests}
use Rattle.inline_chain.proofs.LevelLemmas.{first_level, next_level}
use Rattle.inline_chain.proofs.RunLemmas.{runs_begin, runs_more, runs_end}
use Rattle.inline_chain.proofs.inline_list.runs_under.Goals as goal

pub levels-init : goal.levels-init
levels-init c = record {
  fit = c.in_ok-level_under.ensures.fit;
  level = λ part tree. next_level part _ c.args.owner 0 (c.args.owner ∷ []) _ tree c.requires.fit.1 (first_level part c.args.owner) c.in_ok-level_under.ensures.at;
  runs = λ part tree. runs_begin part c.args.owner _ c.clear.ensures.items;
}

pub returns-then-is_empty : goal.returns-then-is_empty
returns-then-is_empty c part tree = rw c.in_ok-exact.ensures (runs_end _ _ _ _ _ (let none : length c.levels.levels.level.items ≡ 0 = grind (arith, nat_tests) in none) (c.levels.invariant.level part tree) (c.levels.invariant.runs part tree))

pub levels-preserved : goal.levels-preserved
levels-preserved c = record {
  fit = rw c.swap.ensures.x_after c.in_ok-level_under-2.ensures.fit;
  level = λ part tree. rw c.swap.ensures.x_after (next_level part _ c.args.owner (c.levels.number + 1) _ _ tree c.requires.fit.1 (c.levels.invariant.level part tree) (rw c.as_slice.ensures.value at c.in_ok-level_under-2.ensures.at));
  runs = λ part tree. runs_more part c.args.owner c.levels.number _ _ _ (c.levels.invariant.level part tree) c.in_ok-push_level.ensures (c.levels.invariant.runs part tree);
}
