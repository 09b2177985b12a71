use Rattle.std.proofs.Common.{◌<◌, length}
use Rattle.inline_chain.proofs.ClassLemmas.{front_inside, fit_take, fit_drop, sorted_behind}
use Rattle.inline_chain.proofs.GroupLemmas.{groups_begin, groups_more, groups_end, sorted_own, sorted_low, has_first, drop_shorter}
use Rattle.inline_chain.proofs.groups.fill_groups.Goals as goal

pub groups-init : goal.groups-init
groups-init c = record { fit = c.requires.fit; sorted = c.requires.sorted; groups = groups_begin _ _ _ c.clear.ensures.items }

pub split_at-requires : goal.split_at-requires
split_at-requires c = rw c.front_count.ensures (front_inside _ _)

pub push_group-requires : goal.push_group-requires
push_group-requires c = rw c.split_at.ensures.front (fit_take _ _ c.groups.invariant.fit)

pub groups-smaller : goal.groups-smaller
groups-smaller c = (let less : length c.split_at.result.1.now < length c.groups.rest.now = drop_shorter _ _ c.in-Some.first.now _ c.in-Some.ensures.cases.0 (rw c.front_count.ensures at c.split_at.ensures.back) in less)

pub groups-preserved : goal.groups-preserved
groups-preserved c = record {
  fit = rw c.split_at.ensures.back (fit_drop _ _ c.groups.invariant.fit);
  sorted = rw (c.split_at.ensures.back, c.front_count.ensures) (sorted_low _ _ (sorted_behind _ _ (sorted_own _ _ _ _ c.in-Some.ensures.cases.0 c.groups.invariant.sorted)));
  groups = groups_more _ _ _ _ _ _ _ _ (sorted_own _ _ _ _ c.in-Some.ensures.cases.0 c.groups.invariant.sorted) (has_first _ _ _ c.in-Some.ensures.cases.0)
      (rw c.front_count.ensures at c.split_at.ensures.front) (rw c.front_count.ensures at c.split_at.ensures.back) c.in_ok-push_group.ensures c.groups.invariant.groups;
}

pub returns : goal.returns
returns c = groups_end _ _ _ _ c.in_default.ensures.cases c.groups.invariant.groups
