use Rattle.std.proofs.Common.{◌∙◌}
use Rattle.inline_chain.proofs.LevelLemmas.{first_fit}
use Rattle.inline_chain.proofs.PartLemmas.{group_more, group_ends}
use Rattle.inline_chain.proofs.groups.fill_spans.Goals as goal

pub group-preserved : goal.group-preserved
group-preserved c = rw (c.in_ok-push.ensures.items, c.new.ensures) (record {
  fit = (first_fit _ _ _ c.in-Some.ensures.cases.0 c.group.invariant.fit).1;
  at = λ a. group_more c.group.spans.items _ _ c.args.group.now c.in-Some.stretch.now a c.in-Some.ensures.cases.0 ∙ c.group.invariant.at a;
})

pub returns : goal.returns
returns c a = group_ends _ _ a c.in_default.ensures.cases ∙ c.group.invariant.at a
